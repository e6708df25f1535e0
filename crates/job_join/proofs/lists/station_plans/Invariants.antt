use Rattle.std.proofs.Common.{◌≡◌, map, take}
use Rattle.named_list.specs.Named.{names}
use Rattle.job_join.specs.Joined.{station_plan}
use Rattle.job_join.proofs.lists.station_plans.Given as goal

abbrev pub invariant-loop-station : goal.invariant-loop-station
invariant-loop-station l = l.all.items ≡ map (station_plan l.j.rate (names l.j.channels)) (take l.station-index l.j.job.now.stations)
