use Rattle.std.proofs.Common.{◌≡◌, ◌<◌, ◌∙◌, sym, subst, lit<}
use Rattle.piece_claim.specs.State.{sums, widest}
use Rattle.piece_claim.proofs.tests.four_pieces_by_two_seats.Goals as goal

pub word-requires : goal.word-requires
word-requires g c =
    let e : c.run_events.new.self.sizes ≡ widest 2 2 1 2 = c.run_events.ensures.fixed ∙ c.loop-name.invariant in
    subst (λ k. 0 < sums k) (sym e) (lit< tt)

pub word-requires-2 : goal.word-requires-2
word-requires-2 g c =
    let e : c.run_events.new.self.sizes ≡ widest 2 2 1 2 = c.run_events.ensures.fixed ∙ c.loop-name.invariant in
    subst (λ k. 1 < sums k) (sym e) (lit< tt)
