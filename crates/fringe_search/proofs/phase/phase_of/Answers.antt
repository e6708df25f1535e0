use Rattle.std.proofs.Common.{arith}
use Rattle.std.proofs.lemmas.Nat.{div_below, mod_below}
use Rattle.fringe_search.proofs.phase.phase_of.Goals as goal

pub returns-clause-within : goal.returns-clause-within
returns-clause-within c = record {
  sector = div_below c.args.parts c.args.divide 16 (omega arith) c.requires.within;
  part = mod_below c.args.parts c.args.divide (omega arith);
}
