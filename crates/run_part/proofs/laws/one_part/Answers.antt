use Rattle.std.proofs.Common.{None}
use Rattle.run_part.proofs.LawLemmas.{PartOf-one}
use Rattle.run_part.proofs.laws.one_part.Goals as goal

pub returns : goal.returns
returns c files job vex epoch to a b p q = PartOf-one files job vex epoch to (c.one_outcome.ensures files (λ stations. None) job vex epoch) a b p q
