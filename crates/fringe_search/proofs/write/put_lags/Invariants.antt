use Rattle.std.proofs.Common.{map}
use Rattle.std.specs.List.{range_with_len}
use Rattle.sink_text.specs.Written.{Puts}
use Rattle.fringe_search.specs.Certificates.{lines_text}
use Rattle.fringe_search.specs.Written.{lag_line}
use Rattle.fringe_search.proofs.write.put_lags.Given as goal

abbrev pub invariant-loop-lag : goal.invariant-loop-lag
invariant-loop-lag g l =
    Puts (lines_text (map (lag_line l.series l.top) (range_with_len 0 l.lag))) l.initial.lines l.lines
    (g.S.Sink.told l.initial.out) (g.S.Sink.told l.out)
    (g.S.Sink.faults l.initial.out) (g.S.Sink.faults l.out)
