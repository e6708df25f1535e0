use Rattle.run_dump.proofs.ShownLemmas.{cause-content, stage-content}
use Rattle.run_dump.proofs.load.content_of.Goals as goal

pub returns-in-Err-clause-cause : goal.returns-in-Err-clause-cause
returns-in-Err-clause-cause c = rw c.records_refusal.ensures (cause-content c.args.text.now c.in-Err.fault c.in-Err.ensures.fault)

pub returns-in-Err-clause-stage : goal.returns-in-Err-clause-stage
returns-in-Err-clause-stage c = rw c.records_refusal.ensures (stage-content c.in-Err.fault)
