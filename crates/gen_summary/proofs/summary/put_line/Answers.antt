use Rattle.std.proofs.Common.{refl}
use Rattle.sink_text.proofs.WrittenText.{Puts-then}
use Rattle.gen_summary.proofs.TotalLemmas.{line-parts}
use Rattle.gen_summary.proofs.summary.put_line.Goals as goal

pub returns : goal.returns
returns g c =
    Puts-then (line-parts c.as_bytes.ensures.value c.as_bytes-2.ensures.value)
    (Puts-then refl (Puts-then refl c.put.ensures c.put-2.ensures) c.put-3.ensures)
    c.put-4.ensures
