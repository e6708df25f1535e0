use Rattle.std.proofs.Common.{arith}
use Rattle.packed_values.proofs.Lanes.{twice-is}
use Rattle.packed_values.proofs.codes.twice.Goals as goal

pub returns : goal.returns
returns c = twice-is c.args.table.now (omega arith)
