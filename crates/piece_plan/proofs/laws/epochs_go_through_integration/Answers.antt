use Rattle.piece_plan.proofs.WalkLemmas.{integration_epochs-GoThrough}
use Rattle.piece_plan.proofs.laws.epochs_go_through_integration.Goals as goal

pub returns : goal.returns
returns c = integration_epochs-GoThrough
