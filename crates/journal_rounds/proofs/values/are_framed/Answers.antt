use Rattle.journal_rounds.proofs.AheadLemmas.{framed-untold}
use Rattle.journal_rounds.proofs.values.are_framed.Goals as goal

pub returns : goal.returns
returns g c = framed-untold (g.F.Shelf.told c.args._shelf.now) c.args._ready.now c.args._framed.now c.requires
