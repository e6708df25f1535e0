use Rattle.vex_laws.proofs.RowLemmas.{shape_of_row}
use Rattle.vex_laws.proofs.texts.shape_of_row.Goals as goal

pub returns : goal.returns
returns c = shape_of_row
