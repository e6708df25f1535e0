use Rattle.std.proofs.Common.{to_z, of_z, w64, arith}
use Rattle.std.proofs.lemmas.Int.{ints}
use Rattle.fringe_turns.proofs.LineLemmas.{falling_turn}
use Rattle.fringe_turns.proofs.fringe.Fringe.falling_turn.Goals as goal

pub returns : goal.returns
returns c =
    falling_turn c.args.self.now c.args.line.now (to_z w64 (of_z w64 c.below-delay.result)) c.rise-fall.result c.fallen-fallen.result c.room-room.result c.args.from c.args.to c.first_past.result c.facing-facing.result.direction
    (omega arith) (omega (arith, ints, c.rise-fall.ensures.value)) c.fallen-fallen.ensures.value (omega (arith, ints, c.below-delay.ensures.value, c.below-delay.ensures.bound, c.args.line.now.bound_first))
    c.facing-facing.ensures.direction c.room-room.ensures.room c.requires.order c.first_past.ensures.within c.first_past.ensures.below c.first_past.ensures.above
