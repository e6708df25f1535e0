use Rattle.std.specs.Prelude.{option_map}
use Rattle.std.proofs.Common.{◌∙◌, ap}
use Rattle.plan_places.specs.Places.{place_at}
use Rattle.journal_cases.proofs.StandLemmas.{stands_on, cut_begins}
use Rattle.journal_cases.proofs.job.Job.append.Goals as goal

pub append-requires-clause-begins : goal.append-requires-clause-begins
append-requires-clause-begins c =
    ap (option_map place_at) c.requires.next ∙ cut_begins c.args.self.now.plan c.args.samples (place_at c.args.at.now) c.cut-e.result c.cut-e.ensures.cut

pub returns-in-Ok : goal.returns-in-Ok
returns-in-Ok c = record {
  stands = stands_on c.args.self.now.plan c.args.journal.now c.append.new.self c.args.disk.now c.append.new.disk c.requires.stands c.in-Ok.ensures.stands;
}
