use Rattle.job_epochs.proofs.AddedLemmas.{sums_add_up}
use Rattle.job_epochs.proofs.laws.epochs_add_up.Goals as goal

pub returns : goal.returns
returns c = sums_add_up
