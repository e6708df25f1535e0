use Rattle.std.proofs.Common.{refl}
use Rattle.sink_text.proofs.WrittenText.{Puts-then}
use Rattle.run_summary.proofs.summary.put_station.Goals as goal

pub returns : goal.returns
returns g c =
    let word = Puts-then refl c.put.ensures c.put-2.ensures in
    let slots = Puts-then refl word c.put_count.ensures in
    let doubled = Puts-then refl slots c.put_count-2.ensures in
    let invalid = Puts-then refl doubled c.put_count-3.ensures in
    let foreign = Puts-then refl invalid c.put_count-4.ensures in
    Puts-then refl (Puts-then refl foreign c.put_count-5.ensures) c.put-3.ensures
