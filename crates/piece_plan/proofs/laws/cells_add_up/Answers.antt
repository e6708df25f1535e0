use Rattle.piece_plan.proofs.SumLemmas.{cell_over-GoThrough}
use Rattle.piece_plan.proofs.laws.cells_add_up.Goals as goal

pub returns : goal.returns
returns c = cell_over-GoThrough
