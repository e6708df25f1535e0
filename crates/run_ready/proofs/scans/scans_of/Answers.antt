use Rattle.std.proofs.Common.{length}
use Rattle.run_ready.proofs.JoinLemmas.{length-schedule_of}
use Rattle.run_ready.proofs.scans.scans_of.Goals as goal

pub returns-in-Ok-schedule-clause-few : goal.returns-in-Ok-schedule-clause-few
returns-in-Ok-schedule-clause-few c =
    length-schedule_of c.in-Ok.file c.in-Ok-schedule.list.scans (length c.args.text.now)
    c.in-Ok-schedule.ensures.value c.in-Ok.ensures.scans c.in-Ok-schedule.ensures.count
