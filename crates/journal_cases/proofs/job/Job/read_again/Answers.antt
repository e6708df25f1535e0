use Rattle.journal_cases.proofs.StandLemmas.{stands_again}
use Rattle.journal_cases.proofs.job.Job.read_again.Goals as goal

pub read_rest-requires : goal.read_rest-requires
read_rest-requires c = record {
  stands = stands_again c.args.self.now.plan c.args.journal.now c.rewind.new.self c.args.disk.now c.rewind.ensures.stands c.requires.stands;
}
