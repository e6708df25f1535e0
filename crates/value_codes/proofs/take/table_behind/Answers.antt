use Rattle.value_codes.proofs.VectorLemmas.{behind-at}
use Rattle.value_codes.proofs.take.table_behind.Goals as goal

pub returns-clause-lanes : goal.returns-clause-lanes
returns-clause-lanes c = behind-at c.args.table c.args.width
