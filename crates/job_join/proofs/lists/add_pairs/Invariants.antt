use Rattle.std.proofs.Common.{◌≡◌, ◌++◌, take}
use Rattle.job_join.specs.Planned.{pairs_with}
use Rattle.job_join.proofs.lists.add_pairs.Given as goal

abbrev pub invariant-loop-here : goal.invariant-loop-here
invariant-loop-here l = l.pairs.items ≡ l.initial.pairs.items ++ pairs_with l.with_itself l.a (take l.here-index l.stands)
