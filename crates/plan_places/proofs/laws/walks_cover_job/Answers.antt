use Rattle.plan_places.proofs.WholeWalks.{walk-CoverJob}
use Rattle.plan_places.proofs.laws.walks_cover_job.Goals as goal

pub returns : goal.returns
returns c = walk-CoverJob
