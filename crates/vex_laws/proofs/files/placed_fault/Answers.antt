use Rattle.vex_laws.proofs.StandLemmas.{placed_fault}
use Rattle.vex_laws.proofs.files.placed_fault.Goals as goal

pub returns : goal.returns
returns c = placed_fault
