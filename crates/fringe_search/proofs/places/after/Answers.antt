use Rattle.fringe_search.proofs.Turns.{next_baseline}
use Rattle.fringe_search.proofs.places.after.Goals as goal

pub returns-then-next-count-clause-rest : goal.returns-then-next-count-clause-rest
returns-then-next-count-clause-rest c = next_baseline c.args.head.now c.args.at c.requires
