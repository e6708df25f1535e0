use Rattle.vex_laws.proofs.PlaceLemmas.{placed_fault}
use Rattle.vex_laws.proofs.texts.placed_fault.Goals as goal

pub returns : goal.returns
returns c = placed_fault
