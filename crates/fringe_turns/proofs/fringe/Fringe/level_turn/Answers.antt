use Rattle.std.proofs.Common.{◌≡◌, w64, FitsSigned, arith}
use Rattle.std.proofs.lemmas.Int.{ints, to_z-of_z}
use Rattle.fringe_turns.specs.Eighths.{facing_of}
use Rattle.fringe_turns.proofs.LineLemmas.{level_turn}
use Rattle.fringe_turns.proofs.fringe.Fringe.level_turn.Goals as goal

pub returns : goal.returns
returns c =
    let f = c.args.self.now in
    let line = c.args.line.now in
    let fits : FitsSigned w64 line.first = omega (arith, ints, line.bound_first) in
    let faces : c.facing.result.direction ≡ facing_of f line.first = simp to_z-of_z at c.facing.ensures.direction in
    level_turn f line c.args.from c.args.to c.facing.result.direction (omega (arith, ints, c.requires.level)) faces c.requires.order
