use Rattle.std.proofs.Common.{◌≡◌, ℕ, ◌+◌, ◌<◌, length, get_or}
use Rattle.dev_traits.proofs.ToldLemmas.{WhereTold-weaker}
use Rattle.checkpoint_journal.specs.Part.{AreNumbers}
use Rattle.checkpoint_journal.proofs.PartLemmas.{numbers_read}
use Rattle.checkpoint_journal.proofs.part.read_numbers.Goals as goal

pub returns-clause-numbers : goal.returns-clause-numbers
returns-clause-numbers g c =
    let bytes = c.load.new.buf in
    WhereTold-weaker (g.D.Disk.seen c.args.disk.now) (λ image. (k : ℕ) → k < length bytes → get_or bytes k 0 ≡ get_or image (9 + k) 0)
    (λ image. AreNumbers image c.read_u64.result c.read_u64-2.result)
    (λ image same. numbers_read image bytes _ _ c.load.auto.buf c.read_u64.ensures c.read_u64-2.ensures same)
    c.in_ok-load.ensures.bytes
