use Rattle.std.proofs.Common.{append_assoc, append-nil}
use Rattle.run_summary.proofs.summary.put_count.Goals as goal

pub returns : goal.returns
returns g c = simp append_assoc (simp append-nil at c.put_pieces.ensures)
