use Rattle.std.proofs.Common.{true, refl}
use Rattle.job_text.proofs.WholeLemmas.{parts-of}
use Rattle.job_text.proofs.laws.own_scans.Goals as goal

pub returns : goal.returns
returns c = λ text job h. (parts-of true text job h).own refl
