use Rattle.run_fringe.proofs.LawLemmas.{FringeOf-one}
use Rattle.run_fringe.proofs.laws.one_search.Goals as goal

pub returns : goal.returns
returns c = FringeOf-one
