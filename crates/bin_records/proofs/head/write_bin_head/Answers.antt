use Rattle.std.proofs.Common.{refl}
use Rattle.sink_text.proofs.WrittenText.{Puts-then, Appends-written}
use Rattle.vis_records.proofs.HeadPieces.{products-names, scans-short}
use Rattle.bin_records.proofs.TextPieces.{bin_head_text-pieces}
use Rattle.bin_records.proofs.head.write_bin_head.Goals as goal

pub put_products-requires : goal.put_products-requires
put_products-requires g c = products-names c.args.head.now c.products-2.result.now c.products-2.ensures.head c.products-2.ensures.products

pub put_scans-requires : goal.put_scans-requires
put_scans-requires g c = scans-short c.args.head.now c.scans-2.result.now c.scans-2.ensures.head c.scans-2.ensures.scans

pub returns : goal.returns
returns g c =
    let text = bin_head_text-pieces c.args.bins c.args.head.now _ _ _ _ c.products.ensures.products c.products-2.ensures.products
    c.scans.ensures.scans c.scans-2.ensures.scans in
    let products = Puts-then refl (Puts-then refl c.put_front.ensures c.put_u32.ensures) c.put_products.ensures in
    let counted = Puts-then refl products c.put_u32-2.ensures in
    Appends-written c.new-stretch.ensures (Puts-then text counted c.put_scans.ensures) c.end.ensures
