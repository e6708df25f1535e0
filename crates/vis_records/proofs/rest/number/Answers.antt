use Rattle.std.proofs.Common.{rules}
use Rattle.vis_records.specs.Parts.{number_of}
use Rattle.vis_records.proofs.rest.number.Goals as goal

pub returns : goal.returns
unfolding number_of
returns c = search rules
