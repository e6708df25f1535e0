use Rattle.journal_rounds.proofs.values.held_from.Goals as goal

pub returns-clause-values : goal.returns-clause-values
returns-clause-values g c = c.in_ok-held.ensures.values (g.F.Shelf.told c.args.shelf.now) c.in_ok-framed.ensures.frames
