use Rattle.journal_rounds.proofs.AheadLemmas.{held-untold}
use Rattle.journal_rounds.proofs.ahead.are_held.Goals as goal

pub returns : goal.returns
returns g c = held-untold (g.F.Shelf.told c.args._shelf.now) c.args._ready.now c.args._held.now c.requires
