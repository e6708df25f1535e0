use Rattle.piece_plan.proofs.PartLemmas.{parts-GoThrough}
use Rattle.piece_plan.proofs.laws.parts_go_through.Goals as goal

pub returns : goal.returns
returns c = parts-GoThrough
