use Rattle.std.proofs.Common.{refl}
use Rattle.sink_text.proofs.WrittenText.{Puts-then}
use Rattle.bin_records.proofs.record.put_place.Goals as goal

pub returns : goal.returns
returns g c =
    let two = Puts-then refl c.put.ensures c.put_u32.ensures in
    let three = Puts-then refl two c.put_u64.ensures in
    let four = Puts-then refl three c.put_u32-2.ensures in
    let five = Puts-then refl four c.put_u32-3.ensures in
    Puts-then refl five c.put_u32-4.ensures
