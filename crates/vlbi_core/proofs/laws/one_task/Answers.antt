use Rattle.vlbi_core.specs.Calls.{order_in}
use Rattle.vlbi_core.proofs.TopLemmas.{outcome-one}
use Rattle.vlbi_core.proofs.laws.one_task.Goals as goal

pub returns : goal.returns
returns c = λ texts files. outcome-one c.one_outcome.ensures (order_in texts) files
