use Rattle.vex_laws.proofs.RowLemmas.{one_row}
use Rattle.vex_laws.proofs.texts.one_row.Goals as goal

pub returns : goal.returns
returns c = one_row
