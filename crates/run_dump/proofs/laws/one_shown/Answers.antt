use Rattle.run_dump.proofs.LawLemmas.{RecordsOf-one}
use Rattle.run_dump.proofs.laws.one_shown.Goals as goal

pub returns : goal.returns
returns c = RecordsOf-one
