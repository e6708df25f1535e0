use Rattle.std.proofs.Common.{◌≡◌, ◌≤◌, ◌*◌, length, take}
use Rattle.job_join.specs.Planned.{pairs_in}
use Rattle.job_join.proofs.measures.count_in.Given as goal

abbrev pub invariant-loop-here : goal.invariant-loop-here
invariant-loop-here l = (l.count ≡ length (pairs_in l.with_itself l.stands (take l.here-index l.stands))) × (l.count ≤ l.here-index * 32)
