use Rattle.std.proofs.Common.{append_assoc}
use Rattle.run_summary.proofs.summary.put_number.Goals as goal

pub returns : goal.returns
returns g c = simp append_assoc c.put_pieces.ensures
