use Rattle.std.proofs.Common.{refl}
use Rattle.sink_text.proofs.WrittenText.{Puts-then}
use Rattle.vis_records.proofs.lines.put_head.Goals as goal

pub returns : goal.returns
returns g c =
    let stations = rw c.stations.ensures.stations at c.put_stations.ensures in
    let products = rw c.products.ensures.products at c.put_products.ensures in
    let scans = rw c.scans.ensures.scans at c.put_scans.ensures in
    let two = Puts-then refl c.put_sizes.ensures stations in
    let three = Puts-then refl two products in
    Puts-then refl three scans
