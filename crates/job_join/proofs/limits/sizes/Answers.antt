use Rattle.job_join.specs.Standing.{taken}
use Rattle.job_join.specs.declared.joining.Joining.{Joining}
use Rattle.job_join.specs.Joining.{scans_of}
use Rattle.job_join.proofs.MeasuresLemmas.{length_measures-none}
use Rattle.job_join.proofs.limits.sizes.Goals as goal

pub epochs_past-requires-clause-samples : goal.epochs_past-requires-clause-samples
epochs_past-requires-clause-samples c =
    let j : Joining = c.args.j.now in
    length_measures-none j.job.now j.rate (taken j.job.now (scans_of j)) c.requires.lengths
