use Rattle.std.proofs.Common.{w64, FitsSigned}
use Rattle.std.proofs.lemmas.Int.{to_z-of_z}
use Rattle.entry_list.proofs.IndexLemmas.{least-IsNext}
use Rattle.entry_list.proofs.list.EntryList.next_second.Goals as goal

pub returns : goal.returns
returns g c =
    let fits : FitsSigned w64 c.args.second = c.ranges.second in
    let found = simp to_z-of_z at c.least_after.ensures in
    rw (← c.self.view_is)
    (least-IsNext g.E.HasSecond.second_of _ c.self.inside.index c.args.second c.least_after.result c.self.invariant.1 found)
