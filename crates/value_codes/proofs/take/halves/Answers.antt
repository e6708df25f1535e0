use Rattle.value_codes.proofs.VectorLemmas.{first-half, second-half}
use Rattle.value_codes.proofs.take.halves.Goals as goal

pub returns-clause-first : goal.returns-clause-first
returns-clause-first c = first-half c.args.fields c.args.width c.requires.long c.requires.width

pub returns-clause-second : goal.returns-clause-second
returns-clause-second c = second-half c.args.fields c.args.width c.requires.long c.requires.width
