use Rattle.std.proofs.Common.{◌<◌, ◌^◌, w64, FitsSigned, refl, to_z-of_z, arith}
use Rattle.corr_model.specs.Lags.{lag_of}
use Rattle.sink_text.proofs.WrittenText.{Puts-then}
use Rattle.vis_records.specs.Dumped.{cell_line}
use Rattle.vis_records.proofs.NumberedLines.{numbered_first-next, Puts-numbered}
use Rattle.vis_records.proofs.RecordLines.{FitsSigned-lag_of}
use Rattle.vis_records.proofs.record_lines.put_cells.Goals as goal

pub loop-i-preserved : goal.loop-i-preserved
loop-i-preserved g c =
    let few : c.args.lags < 2 ^ 32 = omega (arith, c.ranges.lags) in
    let near : c.loop-i.i < 2 ^ 32 = omega (arith, c.loop-i-test.true, c.requires, few) in
    let fits : FitsSigned w64 (lag_of c.args.lags c.loop-i.i) = FitsSigned-lag_of c.args.lags c.loop-i.i few near in
    Puts-then
    (numbered_first-next (λ i. cell_line c.args.at.now (lag_of c.args.lags i)) c.args.cells.now c.loop-i.i _ _ c.loop-i-test.true refl)
    c.loop-i.invariant
    (simp (c.lag_of.ensures, to_z-of_z) at c.put_cell.ensures)

pub returns : goal.returns
returns g c =
    Puts-numbered (λ i. cell_line c.args.at.now (lag_of c.args.lags i)) c.args.cells.now c.loop-i.i c.loop-i-test.false
    c.loop-i.invariant
