use Rattle.plan_places.proofs.LeftLemmas.{IsJob-by}
use Rattle.plan_places.proofs.LimitLemmas.{shorter-by}
use Rattle.plan_places.proofs.laws.limited_jobs_have_fewer_epochs.Goals as goal

pub returns : goal.returns
returns c job from to epoch is some short =
    shorter-by job from to epoch (c.limited_jobs_are_shorter.ensures (record job { epoch = epoch }) from to (IsJob-by job epoch is some short))
