use Rattle.std.proofs.Common.{to_z, of_z, w64, arith}
use Rattle.std.proofs.lemmas.Int.{ints}
use Rattle.fringe_turns.proofs.LineLemmas.{rising_turn}
use Rattle.fringe_turns.proofs.fringe.Fringe.rising_turn.Goals as goal

pub returns : goal.returns
returns c =
    rising_turn c.args.self.now c.args.line.now (to_z w64 (of_z w64 c.above-delay.result)) c.rise-rise.result c.risen-risen.result c.room-room.result c.args.from c.args.to c.first_reaching.result c.facing-facing.result.direction
    (omega arith) (omega (arith, ints, c.rise-rise.ensures.value)) c.risen-risen.ensures.value (omega (arith, ints, c.above-delay.ensures.value, c.above-delay.ensures.bound, c.args.line.now.bound_first))
    c.facing-facing.ensures.direction c.room-room.ensures.room c.requires.order c.first_reaching.ensures.within c.first_reaching.ensures.below c.first_reaching.ensures.above
