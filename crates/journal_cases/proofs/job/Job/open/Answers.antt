use Rattle.journal_cases.proofs.StandLemmas.{stands_for}
use Rattle.journal_cases.proofs.job.Job.open.Goals as goal

pub returns : goal.returns
returns c = stands_for c.args.self.now.identity c.args.self.now.plan c.open_on.result c.open_on.new.disk c.open_on.ensures.stands
