use Rattle.std.proofs.Common.{sym}
use Rattle.plan_places.specs.Places.{place_at}
use Rattle.journal_image.proofs.RangeLemmas.{cut-begins}
use Rattle.journal_rounds.proofs.epochs.epoch_from.Goals as goal

pub returns-clause-begins : goal.returns-clause-begins
returns-clause-begins c =
    sym (cut-begins c.args.part.now c.args.epoch (place_at c.args.at.now) c.cut-e.result c.requires.place c.cut-e.ensures.cut)
