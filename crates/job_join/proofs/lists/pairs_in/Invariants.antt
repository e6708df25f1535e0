use Rattle.std.proofs.Common.{◌≡◌, take}
use Rattle.job_join.specs.Planned.{pairs_in}
use Rattle.job_join.proofs.lists.pairs_in.Given as goal

abbrev pub invariant-loop-here : goal.invariant-loop-here
invariant-loop-here l = l.pairs.items ≡ pairs_in l.with_itself l.stands (take l.here-index l.stands)
