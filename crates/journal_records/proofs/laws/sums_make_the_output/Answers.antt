use Rattle.journal_records.proofs.KeptLemmas.{kept_text-output}
use Rattle.journal_records.proofs.laws.sums_make_the_output.Goals as goal

pub returns : goal.returns
returns c = λ plan files kept is cover sums. kept_text-output plan files kept is cover sums
