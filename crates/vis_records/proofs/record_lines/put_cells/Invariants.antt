use Rattle.sink_text.specs.Written.{Puts}
use Rattle.corr_model.specs.Lags.{lag_of}
use Rattle.vis_records.specs.Dumped.{cell_line}
use Rattle.vis_records.proofs.NumberedLines.{numbered_first}
use Rattle.vis_records.proofs.record_lines.put_cells.Given as goal

abbrev pub invariant-loop-i : goal.invariant-loop-i
invariant-loop-i g l =
    Puts (numbered_first (λ i. cell_line l.at (lag_of l.lags i)) l.cells l.i) l.initial.lines l.lines
    (g.S.Sink.told l.initial.out) (g.S.Sink.told l.out)
    (g.S.Sink.faults l.initial.out) (g.S.Sink.faults l.out)
