use Rattle.std.proofs.Common.{subst}
use Rattle.std.proofs.lemmas.Result.{IfOk-weaker}
use Rattle.delay_track.specs.Runs.{RunsFields}
use Rattle.delay_laws.specs.Runs.{AreRuns}
use Rattle.delay_laws.proofs.ListLemmas.{runs_of_drained}
use Rattle.delay_laws.proofs.runs.all_runs.Goals as goal

pub returns : goal.returns
returns c =
    IfOk-weaker c.collect.result _ _
    (λ v ran. rw ran.2.0 (subst (λ (s : RunsFields). AreRuns s.model s.at s.to ran.0) c.runs.ensures (runs_of_drained c.runs.result ran.0 ran.1)))
    c.collect.ensures.ran
