use Rattle.fringe_turns.proofs.QuotientLemmas.{fallen-within}
use Rattle.fringe_turns.proofs.reach.fallen.Goals as goal

pub returns-clause-within : goal.returns-clause-within
returns-clause-within c =
    rw (c.quotient.ensures, c.from.ensures, c.from-2.ensures, c.from-3.ensures, c.from-4.ensures) (fallen-within c.args.fall c.args.past c.args.knot c.requires)
