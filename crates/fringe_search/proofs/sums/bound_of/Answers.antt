use Rattle.std.proofs.Common.{ap}
use Rattle.fringe_search.specs.Sums.{bound_of, bound_at}
use Rattle.fringe_search.proofs.sums.bound_of.Goals as goal

pub returns : goal.returns
unfolding bound_at
returns c = ap bound_of c.amplitude_of-most.ensures
