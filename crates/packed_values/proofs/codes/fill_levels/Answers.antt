use Rattle.std.proofs.Common.{◌≡◌, ◌*◌, ◌+◌, ◌≤◌, length, get_or, bit_and, bit_xor, below_more, arith, ◌∙◌}
use Rattle.std.proofs.lemmas.List.{length-set}
use Rattle.std.proofs.lemmas.Simd.{length-chunk, length-put_chunk}
use Rattle.byte_streams.proofs.Bytes.{set_more}
use Rattle.packed_values.specs.Tables.{biased_of}
use Rattle.packed_values.specs.declared.codes.TheConstants.{LEVELS}
use Rattle.packed_values.proofs.Bits.{neither, none_of_lanes, none_gathered, length-gathered}
use Rattle.packed_values.proofs.Lanes.{stored}
use Rattle.packed_values.proofs.codes.fill_levels.Goals as goal

pub components-requires-clause-codes : goal.components-requires-clause-codes
components-requires-clause-codes c = length-chunk (32 * c.loop-i.i) 32 c.args.codes.now (omega arith)

pub loop-i-preserved : goal.loop-i-preserved
loop-i-preserved c =
    let at = 32 * c.loop-i.i in
    let codes = c.args.codes.now in
    let old = c.loop-i.invariant in
    let one = c.args.one in
    let room : at + 32 ≤ length codes = omega arith in
    let new = c.components.result in
    record {
      len = length-put_chunk at c.loop-i.out new ∙ old.len;
      each = λ k lt. stored (biased_of LEVELS c.args.signs.now c.args.bias) at codes c.loop-i.out new room old.len c.components.ensures old.each k (omega (arith, lt));
      lanes = length-gathered codes c.loop-i.gathered at one room old.lanes;
      bits = λ m none k lt. none_gathered codes c.loop-i.gathered at one m room old.lanes (old.bits m) none k (omega (arith, lt));
    }

pub loop-k-init : goal.loop-k-init
loop-k-init c =
    let old = c.loop-i.invariant in
    record {
      len = old.len;
      each = λ k lt. old.each k (omega (arith, lt));
      bits = λ m e k lt. old.bits m (λ j l. (none_of_lanes c.loop-i.gathered 0 m e).1 j (omega (arith, l, old.lanes))) k (omega (arith, lt));
    }

pub loop-k-preserved : goal.loop-k-preserved
loop-k-preserved c =
    let codes = c.args.codes.now in
    let one = c.args.one in
    let old = c.loop-k.invariant in
    record {
      len = length-set c.loop-k.out c.loop-k.k c.component.result ∙ old.len;
      each = set_more c.loop-k.out (λ j. biased_of LEVELS c.args.signs.now c.args.bias (get_or codes j 0)) c.loop-k.k c.component.result (omega (arith, old.len)) old.each c.component.ensures;
      bits = λ m e.
          let both = neither c.loop-k.bits (bit_xor (get_or codes c.loop-k.k 0) one) m e in
          below_more (λ j. bit_and (bit_xor (get_or codes j 0) one) m ≡ 0) c.loop-k.k (old.bits m both.0) both.1;
    }
