use Rattle.std.proofs.Common.{length}
use Rattle.fringe_search.specs.InOrder.{series_next}
use Rattle.fringe_search.proofs.Putting.{IsPut}
use Rattle.fringe_search.proofs.write.put_certificate.Given as goal

abbrev pub invariant-loop-next : goal.invariant-loop-next
invariant-loop-next g l =
    IsPut l.vis l.grid l.next l.fn.lines l.lines
    (g.S.Sink.told l.fn.out) (g.S.Sink.told l.out)
    (g.S.Sink.faults l.fn.out) (g.S.Sink.faults l.out)

abbrev pub decreases-loop-next : goal.decreases-loop-next
decreases-loop-next g l = length (series_next l.vis.head l.next)
