use Rattle.std.proofs.Common.{◌<◌, arith}
use Rattle.fringe_turns.proofs.Rooms.{room_left, room_past}
use Rattle.fringe_turns.proofs.fringe.Fringe.room.Goals as goal
use Rattle.fringe_turns.proofs.fringe.Fringe.room.Goals.{then-rises-self, else-rises-self}

pub returns-else-self-eq0-clause-room : goal.returns-else-self-eq0-clause-room
returns-else-self-eq0-clause-room c =
    let f = c.args.self.now in
    let facing = c.args.facing in
    let some : 0 < f.hertz = omega (arith, c.if-self-eq0.false) in
    elim c.if-rises-self.branch [
      | then-rises-self w ↦ rw (c.quotient.ensures, w.size-is)
          (room_left f.hertz f.rate f.upper c.args.rises c.args.delay facing.past facing.left some f.some c.requires.past c.requires.left w.if-rises-self.true)
      | else-rises-self w ↦ rw (c.quotient.ensures, w.size-is)
          (room_past f.hertz f.rate f.upper c.args.rises c.args.delay facing.past facing.left some f.some c.requires.past
          c.requires.left (λ same. absurd (let other = w.if-rises-self.false in grind arith)))
    ]
