use Rattle.piece_plan.proofs.LimitLemmas.{IsEpoch-from_limited, IsEpoch-limited}
use Rattle.piece_plan.proofs.laws.epochs_of_limited.Goals as goal

pub returns : goal.returns
returns c job from to e is =
    (IsEpoch-from_limited job from to e is, λ h. IsEpoch-limited job from to e is h.0 h.1 h.2)
