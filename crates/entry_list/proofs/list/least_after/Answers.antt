use Rattle.std.proofs.Common.{w64, FitsSigned, rules}
use Rattle.std.proofs.lemmas.Int.{to_z-of_z}
use Rattle.entry_list.proofs.IndexLemmas.{least-from}
use Rattle.entry_list.proofs.list.least_after.Goals as goal

pub returns-in-Some : goal.returns-in-Some
returns-in-Some g c =
    let fits : FitsSigned w64 c.args.second = c.ranges.second in
    let key_fits : FitsSigned w64 c.in-Some.next.now = search rules in
    let h = rw c.in-Some.ensures.steps at (simp to_z-of_z at (c.range.ensures.in_range tt)) in
    simp to_z-of_z
    (least-from c.args.index.now c.args.second c.in-Some.next.now c.in-Some.field-0-1.now h.1.0.0 h.1.1
    (λ q later some. h.2 q (later, tt) some))
