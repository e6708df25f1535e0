use Rattle.run_fringe.proofs.LawLemmas.{VerifyOf-one}
use Rattle.run_fringe.proofs.laws.one_verdict.Goals as goal

pub returns : goal.returns
returns c = VerifyOf-one
