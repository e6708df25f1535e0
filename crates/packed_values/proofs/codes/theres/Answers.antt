use Rattle.packed_values.proofs.Lanes.{theres-are}
use Rattle.packed_values.proofs.codes.theres.Goals as goal

pub returns : goal.returns
returns c = theres-are c.args.codes c.requires
