use Rattle.std.proofs.Common.{arith}
use Rattle.checkpoint_journal.proofs.open.opened.Goals as goal

pub invariant_of-result : goal.invariant_of-result
invariant_of-result c = (c.requires.buffer, omega (arith, c.first_gate-first.ensures.gate, c.requires.behind))
