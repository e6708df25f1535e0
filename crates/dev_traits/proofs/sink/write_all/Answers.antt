use Rattle.std.proofs.Common.{length, arith, length-drop, ap, ◌∙◌}
use Rattle.std.proofs.lemmas.List.{take_rest}
use Rattle.dev_traits.proofs.Appended.{more-take}
use Rattle.dev_traits.proofs.sink.write_all.Goals as goal

pub loop-at-preserved : goal.loop-at-preserved
loop-at-preserved g c =
    let n = c.in_ok-at.field-0 in
    let appended = rw (take_rest c.args.bytes.now c.loop-at.at) at c.in_ok-at.ensures.appended in
    let within = rw (take_rest c.args.bytes.now c.loop-at.at, length-drop) at c.in_ok-at.ensures.within in (
      omega (arith, within),
      more-take _ _ _ c.args.bytes.now c.loop-at.at n c.loop-at.invariant.1 appended,
      c.in_ok-at.ensures.counts.kept ∙ c.loop-at.invariant.2,
      λ none_given. absurd (let empty = ap length none_given in omega (arith, empty)),
    )
