use Rattle.std.proofs.Common.{length}
use Rattle.fringe_search.specs.InOrder.{series_next}
use Rattle.fringe_search.proofs.Checking.{IsChecked}
use Rattle.fringe_search.proofs.check.check_certificate.Given as goal

abbrev pub invariant-loop-next : goal.invariant-loop-next
invariant-loop-next l = IsChecked l.vis l.grid l.text l.next l.rest

abbrev pub decreases-loop-next : goal.decreases-loop-next
decreases-loop-next l = length (series_next l.vis.head l.next)
