use Rattle.std.proofs.Common.{◌+◌, ◌-◌, ◌+ℤ◌, pos, ℤ, length-set, w64, to_z, of_z, sym, ap, ◌∙◌, arith}
use Rattle.std.proofs.lemmas.Int.{ints}
use Rattle.byte_streams.proofs.Bytes.{set_more}
use Rattle.packed_values.specs.Words.{field_of, word_at}
use Rattle.packed_values.proofs.Cuts.{word_at-inside, word_at-past}
use Rattle.packed_values.proofs.words.cut_field.Goals as goal

pub loop-k-2-preserved : goal.loop-k-2-preserved
loop-k-2-preserved c =
    let k = c.loop-k-2.k in
    let inv = c.loop-k-2.invariant in
    let words = c.args.words.now in
    let shift = c.args.shift in
    let start : ℤ = to_z w64 (of_z w64 c.args.start) in
    let place = c.places-before.result.1 + (k - c.places-before.result.0) in
    record {
      len = length-set c.loop-k-2.out k c.field.result ∙ inv.len;
      done = set_more c.loop-k-2.out (λ j. field_of shift (word_at words 495 (start +ℤ pos j))) k c.field.result (omega (arith, inv.len)) inv.done
          (c.field.ensures
          ∙ ap (field_of shift) (word_at-inside words 495 place (start +ℤ pos k) (omega (arith, ints, c.places-before.ensures.first)) (omega arith)));
    }

pub loop-k-3-preserved : goal.loop-k-3-preserved
loop-k-3-preserved c =
    let k = c.loop-k-3.k in
    let inv = c.loop-k-3.invariant in
    let words = c.args.words.now in
    let shift = c.args.shift in
    let start : ℤ = to_z w64 (of_z w64 c.args.start) in
    let place = c.places-before.result.1 + (k - c.places-before.result.0) in
    record {
      len = length-set c.loop-k-3.out k c.field-outside.result ∙ inv.len;
      done = set_more c.loop-k-3.out (λ j. field_of shift (word_at words 495 (start +ℤ pos j))) k c.field-outside.result (omega (arith, inv.len)) inv.done
          (c.field-outside.ensures
          ∙ ap (field_of shift) (sym (word_at-past words 495 place (start +ℤ pos k) (omega (arith, ints, c.places-before.ensures.first)) (omega arith))));
    }
