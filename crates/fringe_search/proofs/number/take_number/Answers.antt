use Rattle.fringe_search.proofs.Spaced.{ended}
use Rattle.fringe_search.proofs.number.take_number.Goals as goal

pub returns-in_default-clause-taken : goal.returns-in_default-clause-taken
returns-in_default-clause-taken c = λ n behind h.
    c.in_default.ensures behind
    (ended c.args.text.now c.number_of-n.result n c.args.stop c.from_ref.result.now behind (c.number_of-n.ensures n behind h) c.from_ref.ensures.value h.is)
