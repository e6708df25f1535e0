use Rattle.vex_laws.proofs.CountingLemmas.{what_counts}
use Rattle.vex_laws.proofs.files.what_counts.Goals as goal

pub returns : goal.returns
returns c = what_counts
