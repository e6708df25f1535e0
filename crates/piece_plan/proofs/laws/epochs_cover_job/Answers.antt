use Rattle.piece_plan.proofs.WalkLemmas.{epochs-CoverJob}
use Rattle.piece_plan.proofs.laws.epochs_cover_job.Goals as goal

pub returns : goal.returns
returns c = epochs-CoverJob
