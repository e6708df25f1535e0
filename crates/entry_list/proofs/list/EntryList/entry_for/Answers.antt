use Rattle.std.proofs.Common.{w64, FitsSigned}
use Rattle.std.proofs.lemmas.Int.{to_z-of_z}
use Rattle.entry_list.proofs.InForce.{in_force-IsInForce, IsInForce-unique}
use Rattle.entry_list.proofs.IndexLemmas.{greatest-IsInForce}
use Rattle.entry_list.proofs.list.EntryList.entry_for.Goals as goal

pub returns : goal.returns
returns g c =
    let fits : FitsSigned w64 c.args.second = c.ranges.second in
    let found = simp to_z-of_z at c.greatest_up_to.ensures in
    let latest = greatest-IsInForce g.E.HasSecond.second_of _ c.self.inside.index c.args.second c.greatest_up_to.result c.self.invariant.1 found in
    rw (← c.self.view_is)
    (record {
      latest = latest;
      same = IsInForce-unique g.E.HasSecond.second_of _ c.args.second _ _ c.self.invariant.0 latest (in_force-IsInForce g.E.HasSecond.second_of _ c.args.second);
    })
