use Rattle.std.proofs.Common.{w64, FitsSigned}
use Rattle.std.proofs.lemmas.Int.{to_z-of_z}
use Rattle.entry_list.proofs.IndexLemmas.{greatest-from}
use Rattle.entry_list.proofs.list.greatest_up_to.Goals as goal

pub returns-in-Some : goal.returns-in-Some
returns-in-Some g c =
    let fits : FitsSigned w64 c.args.second = c.ranges.second in
    let h = simp to_z-of_z at (c.range.ensures.in_range tt) in
    let there = h.3 _ _ c.in-Some.ensures.steps in
    let last = h.4 _ _ c.in-Some.ensures.steps in
    greatest-from c.args.index.now c.args.second c.in-Some.field-0-0.now c.in-Some.e.now there.0.1 there.1
    (λ q low some. last q (tt, low) some)
