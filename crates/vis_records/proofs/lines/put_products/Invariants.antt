use Rattle.std.proofs.Common.{map}
use Rattle.vis_records.specs.Dumped.{product_line}
use Rattle.vis_records.specs.Heads.{product_of}
use Rattle.sink_text.specs.Written.{Puts}
use Rattle.vis_records.proofs.NumberedLines.{numbered_first}
use Rattle.vis_records.proofs.lines.put_products.Given as goal

abbrev pub invariant-loop-i : goal.invariant-loop-i
invariant-loop-i g l =
    Puts (numbered_first product_line (map product_of l.products) l.i) l.initial.lines l.lines
    (g.S.Sink.told l.initial.out) (g.S.Sink.told l.out)
    (g.S.Sink.faults l.initial.out) (g.S.Sink.faults l.out)
