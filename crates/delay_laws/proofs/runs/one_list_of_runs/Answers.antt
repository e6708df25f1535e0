use Rattle.delay_laws.proofs.ListLemmas.{one_list_of_runs}
use Rattle.delay_laws.proofs.runs.one_list_of_runs.Goals as goal

pub returns : goal.returns
returns c = one_list_of_runs
