use Rattle.job_epochs.proofs.CountedSums.{length-sums_of}
use Rattle.job_epochs.proofs.laws.sums_are_counted.Goals as goal

pub returns : goal.returns
returns c = length-sums_of
