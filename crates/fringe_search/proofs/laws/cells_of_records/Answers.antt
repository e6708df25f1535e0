use Rattle.fringe_search.proofs.Placing.{cells_of}
use Rattle.fringe_search.proofs.laws.cells_of_records.Goals as goal

pub returns : goal.returns
returns c = λ content at m is within. cells_of content at m is within
