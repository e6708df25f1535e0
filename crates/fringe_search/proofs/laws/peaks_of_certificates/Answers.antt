use Rattle.fringe_search.proofs.Named.{peaks_named}
use Rattle.fringe_search.proofs.laws.peaks_of_certificates.Goals as goal

pub returns : goal.returns
returns c = λ content text right. peaks_named content text right
