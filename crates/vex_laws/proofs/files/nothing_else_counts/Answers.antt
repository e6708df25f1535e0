use Rattle.vex_laws.proofs.CountingLemmas.{nothing_else_counts}
use Rattle.vex_laws.proofs.files.nothing_else_counts.Goals as goal

pub returns : goal.returns
returns c = nothing_else_counts
