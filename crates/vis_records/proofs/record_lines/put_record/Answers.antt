use Rattle.std.proofs.Common.{length, ap, arith}
use Rattle.std.proofs.lemmas.List.{length-take}
use Rattle.vis_records.proofs.RecordLines.{PutsRecords-one}
use Rattle.vis_records.proofs.record_lines.put_record.Goals as goal

pub put_cells-requires : goal.put_cells-requires
put_cells-requires g c =
    omega (arith, ap length c.split_cells.ensures.own, length-take c.args.lags c.args.cells.now)

pub returns : goal.returns
returns g c =
    PutsRecords-one c.args.lags c.args.at.now c.args.cells.now _ _ c.split_cells.ensures.own c.split_cells.ensures.left
    c.put_cells.ensures
