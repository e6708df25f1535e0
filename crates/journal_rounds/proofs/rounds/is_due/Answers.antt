use Rattle.std.proofs.Common.{option_map}
use Rattle.plan_places.specs.Places.{place_at}
use Rattle.journal_rounds.proofs.AheadLemmas.{begins-due, sums-untold, cut-due}
use Rattle.journal_rounds.proofs.rounds.is_due.Goals as goal

pub returns-clause-begins : goal.returns-clause-begins
returns-clause-begins g c =
    begins-due c.args._part.now c.args._epoch (option_map place_at c.args._journal.now.end.next) c.args._ahead.now.summed c.requires.first

pub returns-clause-sums : goal.returns-clause-sums
returns-clause-sums g c = sums-untold (g.F.Shelf.told c.args._shelf.now) c.args._ready.now c.args._ahead.now.summed c.requires.sums

pub returns-clause-cut : goal.returns-clause-cut
returns-clause-cut g c = cut-due c.args._part.now c.args._epoch (option_map place_at c.args._journal.now.end.next) c.args._ahead.now.summed c.requires.first
