use Rattle.corr_model.specs.Records.{cell_text}
use Rattle.sink_text.proofs.WrittenText.{Puts-next}
use Rattle.vis_records.proofs.writer.put_cells.Goals as goal

pub loop-cell-preserved : goal.loop-cell-preserved
loop-cell-preserved g c =
    Puts-next cell_text c.args.cells.now c.loop-cell.cell-index _ c.loop-cell-test.true c.loop-cell.invariant c.put_cell.ensures
