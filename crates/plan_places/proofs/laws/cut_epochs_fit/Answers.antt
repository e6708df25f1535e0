use Rattle.plan_places.proofs.CutLemmas.{cut-IsEpoch}
use Rattle.plan_places.proofs.laws.cut_epochs_fit.Goals as goal

pub returns : goal.returns
returns c = cut-IsEpoch
