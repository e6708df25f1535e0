use Rattle.std.proofs.Common.{rules, ◌≡◌, ◌≢◌, ◌∙◌, ap, sym, subst, set}
use Rattle.piece_claim.specs.State.{board, ended_seat, seat_at}
use Rattle.piece_claim.specs.Moves.{CanJoin, joined, after_join}
use Rattle.piece_claim.specs.Shown.{IsBoard, state_of}
use Rattle.piece_claim.proofs.EventLaws.{joins, join_seats, seat_read, seats_back}
use Rattle.piece_claim.proofs.board.Board.join.Goals as goal

back : (c : goal.Joined-index_mut-ended) → set (set (set c.self.inside.seats.items c.args.other c.replace-ended.new.dest) c.args.seat c.absorb.new.self) c.args.other c.absorb.new.other ≡ c.self.inside.seats.items
back c =
    let b = state_of c.self.inside in
    let can : CanJoin (seat_at b c.args.seat) (seat_at b c.args.other) = search rules in
    let same : c.absorb.new.self ≡ c.index_mut-2.result.now = search rules in
    let other : c.absorb.new.other ≡ c.index_mut.result.now = search rules in
    seats_back b c.args.seat c.args.other c.replace-ended.new.dest c.index_mut-2.result.now c.absorb.new.self c.absorb.new.other c.if-seat-other.false can.live c.index_mut-2.ensures.value same
    (other ∙ seat_read b c.args.other c.index_mut.result.now can.other_live c.index_mut.ensures.value)

pub invariant_of-self : goal.invariant_of-self
invariant_of-self c =
    let b = state_of c.self.inside in
    subst (λ seats. IsBoard (board b.sizes b.next b.words seats)) (sym (back c)) c.self.invariant

pub returns-then-is_err-clause-same : goal.returns-then-is_err-clause-same
returns-then-is_err-clause-same c =
    let b = state_of c.self.inside in
    ap (board b.sizes b.next b.words) (back c) ∙ c.self.view_is

pub returns-then-is_err-clause-sound : goal.returns-then-is_err-clause-sound
returns-then-is_err-clause-sound c = (invariant_of-self c).sound

pub invariant_of-self-else-is_err : goal.invariant_of-self-else-is_err
invariant_of-self-else-is_err c =
    let b = state_of c.self.inside in
    let i = c.args.seat in
    let j = c.args.other in
    let can : CanJoin (seat_at b i) (seat_at b j) = search rules in
    joins b i j (set (set b.seats j c.replace-ended.new.dest) i c.absorb.new.self) c.self.invariant c.if-seat-other.false can
    (join_seats b i j c.replace-ended.new.dest c.index_mut-2.result.now c.index_mut.result.now c.absorb.new.self c.if-seat-other.false can (search rules) c.index_mut-2.ensures.value c.index_mut.ensures.value (search rules))

new_seats : (c : goal.Joined-ended) → set (set c.self.inside.seats.items c.args.other c.replace-ended.new.dest) c.args.seat c.absorb.new.self ≡ set (set c.self.inside.seats.items c.args.seat (joined (seat_at (state_of c.self.inside) c.args.seat) (seat_at (state_of c.self.inside) c.args.other))) c.args.other ended_seat
new_seats c =
    let b = state_of c.self.inside in
    let can : CanJoin (seat_at b c.args.seat) (seat_at b c.args.other) = search rules in
    join_seats b c.args.seat c.args.other c.replace-ended.new.dest c.index_mut-2.result.now c.index_mut.result.now c.absorb.new.self c.if-seat-other.false can (search rules) c.index_mut-2.ensures.value c.index_mut.ensures.value (search rules)

pub returns-clause-moved : goal.returns-clause-moved
returns-clause-moved c =
    let b = state_of c.self.inside in
    let i = c.args.seat in
    let j = c.args.other in
    let can : CanJoin (seat_at b i) (seat_at b j) = search rules in
    subst (λ s. (i ≢ j) × CanJoin (seat_at s i) (seat_at s j) × (board b.sizes b.next b.words (set (set b.seats j c.replace-ended.new.dest) i c.absorb.new.self) ≡ after_join s i j)) c.self.view_is
    (c.if-seat-other.false, can, ap (board b.sizes b.next b.words) (new_seats c))

pub returns-clause-sound : goal.returns-clause-sound
returns-clause-sound c =
    let b = state_of c.self.inside in
    let can : CanJoin (seat_at b c.args.seat) (seat_at b c.args.other) = search rules in
    let is = joins b c.args.seat c.args.other (set (set b.seats c.args.other c.replace-ended.new.dest) c.args.seat c.absorb.new.self) c.self.invariant c.if-seat-other.false can (new_seats c) in
    is.sound
