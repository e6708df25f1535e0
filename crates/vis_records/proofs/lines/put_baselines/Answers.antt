use Rattle.std.proofs.Common.{refl}
use Rattle.sink_text.proofs.WrittenText.{Puts-then}
use Rattle.vis_records.specs.Dumped.{baseline_line}
use Rattle.vis_records.specs.Heads.{baseline_of}
use Rattle.vis_records.proofs.NumberedLines.{numbered_first-made, Puts-made}
use Rattle.vis_records.proofs.lines.put_baselines.Goals as goal

pub loop-i-preserved : goal.loop-i-preserved
loop-i-preserved g c =
    Puts-then (numbered_first-made baseline_of (baseline_line c.args.scan) c.args.baselines.now c.loop-i.i _ _ c.loop-i-test.true refl)
    c.loop-i.invariant
    c.put_baseline.ensures

pub returns : goal.returns
returns g c =
    Puts-made baseline_of (baseline_line c.args.scan) c.args.baselines.now c.loop-i.i c.loop-i-test.false c.loop-i.invariant
