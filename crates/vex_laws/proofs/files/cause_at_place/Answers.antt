use Rattle.vex_laws.proofs.CauseLemmas.{cause_at_place}
use Rattle.vex_laws.proofs.files.cause_at_place.Goals as goal

pub returns : goal.returns
returns c = cause_at_place
