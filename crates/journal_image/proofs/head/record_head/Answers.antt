use Rattle.std.proofs.Common.{arith}
use Rattle.journal_image.proofs.HeadLemmas.{head_read}
use Rattle.journal_image.proofs.head.record_head.Goals as goal

pub returns-clause-text : goal.returns-clause-text
returns-clause-text c =
    head_read c.args.bytes.now _ _ _ _ c.requires (λ k. omega (arith, c.type_inv.bytes k)) c.read_u32.ensures c.read_u64.ensures c.read_u64-2.ensures c.read_u64-3.ensures
