use Rattle.std.proofs.Common.{refl}
use Rattle.sink_text.proofs.WrittenText.{Puts-then}
use Rattle.vis_records.proofs.HeadPieces.{sizes_text-pieces}
use Rattle.vis_records.proofs.writer.put_sizes.Goals as goal

pub returns : goal.returns
returns g c =
    let head = c.args.head.now in
    let text =
    sizes_text-pieces head _ _ _ _ c.lags.ensures c.integration.ensures c.rate.ensures c.stations.ensures.stations in
    let two = Puts-then refl c.put.ensures c.put_u32.ensures in
    let three = Puts-then refl two c.put_u64.ensures in
    let four = Puts-then refl three c.put_u64-2.ensures in
    Puts-then text four c.put_u32-2.ensures
