use Rattle.std.proofs.Common.{subst}
use Rattle.piece_plan.specs.Epochs.{JobSizes, IsEpoch}
use Rattle.piece_plan.proofs.LimitLemmas.{IsEpoch-from_limited}
use Rattle.journal_cases.proofs.job.Job.part.Goals as goal

pub invariant_of-result-2-clause-few : goal.invariant_of-result-2-clause-few
invariant_of-result-2-clause-few c e inside =
    let whole = IsEpoch-from_limited c.args.self.now.plan c.args.from c.args.to e c.epochs-epochs.ensures.job (subst (λ (job : JobSizes). IsEpoch job e) c.in_ok-limited.ensures inside) in
    c.args.self.now.few e whole.0
