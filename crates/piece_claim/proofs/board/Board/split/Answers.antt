use Rattle.std.proofs.Common.{rules, ◌≡◌, ◌++◌, ◌∷◌, [], ap, subst, set}
use Rattle.piece_claim.specs.State.{board, new_seat, seat_at}
use Rattle.piece_claim.specs.Moves.{CanSplit, one_less, after_split}
use Rattle.piece_claim.specs.Shown.{state_of}
use Rattle.piece_claim.proofs.EventLaws.{splits, split_seats}
use Rattle.piece_claim.proofs.board.Board.split.Goals as goal

new_seats : (c : goal.After-self-1) → set c.push.new.self.items c.args.seat c.give_share.new.self ≡ set c.self.inside.seats.items c.args.seat (one_less (seat_at (state_of c.self.inside) c.args.seat)) ++ new_seat 1 ∷ []
new_seats c =
    let b = state_of c.self.inside in
    let can : CanSplit (seat_at b c.args.seat) = search rules in
    let pushed : c.push.new.self.items ≡ b.seats ++ new_seat 1 ∷ [] = search rules in
    split_seats b c.args.seat c.push.new.self.items c.index_mut.result.now c.give_share.new.self can.live pushed c.index_mut.ensures.value c.give_share.ensures

pub invariant_of-self-2 : goal.invariant_of-self-2
invariant_of-self-2 c =
    let b = state_of c.self.inside in
    let can : CanSplit (seat_at b c.args.seat) = search rules in
    splits b c.args.seat (set c.push.new.self.items c.args.seat c.give_share.new.self) c.self.invariant can (new_seats c)

pub returns-clause-moved : goal.returns-clause-moved
returns-clause-moved c =
    let b = state_of c.self.inside in
    let can : CanSplit (seat_at b c.args.seat) = search rules in
    subst (λ s. CanSplit (seat_at s c.args.seat) × (board b.sizes b.next b.words (set c.push.new.self.items c.args.seat c.give_share.new.self) ≡ after_split s c.args.seat)) c.self.view_is
    (can, ap (board b.sizes b.next b.words) (new_seats c))

pub returns-clause-sound : goal.returns-clause-sound
returns-clause-sound c = (invariant_of-self-2 c).sound
