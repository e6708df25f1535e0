use Rattle.std.proofs.Common.{◌≡◌, map, take}
use Rattle.named_list.specs.Named.{names}
use Rattle.job_join.specs.Joined.{recorded_of}
use Rattle.job_join.proofs.plans.recorded_all.Given as goal

abbrev pub invariant-loop-i : goal.invariant-loop-i
invariant-loop-i l = l.all.items ≡ map (recorded_of l.station) (take l.i (names l.channels))
