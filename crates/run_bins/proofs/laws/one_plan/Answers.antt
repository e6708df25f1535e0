use Rattle.std.proofs.Common.{None}
use Rattle.run_bins.proofs.LawLemmas.{BinsOf-one}
use Rattle.run_bins.proofs.laws.one_plan.Goals as goal

pub returns : goal.returns
returns c files job vex phase a b p q = BinsOf-one files job vex phase (c.one_outcome.ensures files (λ stations. None) job vex None) a b p q
