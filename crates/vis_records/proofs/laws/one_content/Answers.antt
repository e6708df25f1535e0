use Rattle.vis_records.proofs.FileForms.{one_content as law}
use Rattle.vis_records.proofs.laws.one_content.Goals as goal

pub returns : goal.returns
returns c = law
