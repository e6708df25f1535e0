use Rattle.std.proofs.Common.{below_more, ◌≡◌, ◌+◌, ◌∷◌, [], pos, to_z, arith, ap, ◌∙◌}
use Rattle.std.specs.Int.{w64}
use Rattle.std.proofs.lemmas.Int.{ints}
use Rattle.packed_values.specs.Words.{word_value}
use Rattle.bit_planes.proofs.Rows.{values-before, value-here, words-more}
use Rattle.bit_planes.proofs.asked.ask.Goals as goal

pub loop-k-preserved : goal.loop-k-preserved
loop-k-preserved g c =
    let xs = c.loop-k.words.items in
    let x = c.pack.result in
    let old = c.loop-k.invariant in
    let more = c.in_ok-push.ensures in
    let at : to_z w64 (c.args.n + c.loop-k.k) ≡ pos (c.args.n + c.loop-k.k) = omega (arith, ints, c.requires.scan, c.loop-k-test.true) in
    record {
      are = rw more.items (words-more xs x old.are c.pack.ensures.word);
      long = omega (arith, old.long, more.len, c.loop-k.words.ok.0, c.push.new.self.ok.0);
      values =
          rw more.items
          (below_more _ _ (λ j h. values-before word_value xs (x ∷ []) j (omega (arith, h, old.long)) ∙ old.values j h)
          (value-here word_value xs x c.loop-k.k old.long ∙ c.pack.ensures.value ∙ c.z.ensures.value
          ∙ ap (g.V.Values.samples c.args.v.now c.args.station c.args.chan) at));
    }
