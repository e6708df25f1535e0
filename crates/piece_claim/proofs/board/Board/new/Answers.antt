use Rattle.std.proofs.Common.{rules, arith, ◌≡◌, ◌∷◌, [], sym, subst, replicate, ℕ, List}
use Rattle.piece_claim.specs.State.{Seat, board, new_seat, sums, widest}
use Rattle.piece_claim.specs.Shown.{IsBoard}
use Rattle.piece_claim.proofs.Opens.{opens, IsSizes-widest}
use Rattle.piece_claim.proofs.board.Board.new.Goals as goal

pub invariant_of-result : goal.invariant_of-result
invariant_of-result c =
    let k = widest c.args.groups c.args.per_group c.args.width c.args.shares in
    let some = c.requires.some in
    let sizes = IsSizes-widest c.args.groups c.args.per_group c.args.width c.args.shares some.0 some.1 some.2 some.3 c.requires.room c.requires.words c.requires.few (omega (arith, c.ranges.per_group.fits)) in
    let words : c.in_ok-words.words.items ≡ replicate {A = ℕ} (sums k) 0 = search rules in
    let seats : c.push.new.self.items ≡ new_seat c.args.shares ∷ [] = search rules in
    subst (λ (l : List ℕ). IsBoard (board k 0 l c.push.new.self.items)) (sym words)
    (subst (λ (l : List Seat). IsBoard (board k 0 (replicate (sums k) 0) l)) (sym seats) record { sizes = sizes; sound = opens k sizes })
