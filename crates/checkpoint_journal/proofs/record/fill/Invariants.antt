use Rattle.std.proofs.Common.{◌≡◌, ◌*◌, take, drop}
use Rattle.checkpoint_journal.specs.Cells.{body_text}
use Rattle.checkpoint_journal.proofs.record.fill.Given as goal

abbrev pub invariant-loop-k : goal.invariant-loop-k
invariant-loop-k l = take (24 * l.k) l.buffer ≡ body_text (take l.k (drop l.first l.sums.cells))
