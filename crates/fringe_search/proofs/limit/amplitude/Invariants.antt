use Rattle.std.proofs.Common.{length}
use Rattle.fringe_search.specs.InOrder.{series_next}
use Rattle.fringe_search.proofs.Passed.{IsPassed}
use Rattle.fringe_search.proofs.limit.amplitude.Given as goal

abbrev pub invariant-loop-next : goal.invariant-loop-next
invariant-loop-next l = IsPassed l.vis l.next

abbrev pub decreases-loop-next : goal.decreases-loop-next
decreases-loop-next l = length (series_next l.vis.head l.next)
