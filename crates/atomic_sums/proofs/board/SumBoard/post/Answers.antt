use Rattle.std.proofs.Common.{arith, ◌≡◌, ◌<◌, ◌≤◌, ◌+◌, ◌*◌, ◌/◌, ◌∙◌, ap, sym, subst, All, length}
use Rattle.piece_claim.specs.declared.sizes.Sizes.{Sizes}
use Rattle.piece_claim.specs.State.{pieces, sums}
use Rattle.piece_claim.specs.Invariant.{IsSizes}
use Rattle.atomic_sums.proofs.Posting.{of_board, held_of, base_of}
use Rattle.atomic_sums.proofs.board.SumBoard.post.Goals as goal

pub overflow_mul-base : goal.overflow_mul-base
overflow_mul-base c = omega (arith, base_of c.seat.inside c.self.inside c.args.seat.now c.args.self.now c.seat.view_is c.self.view_is c.requires.of c.self.invariant c.seat.invariant c.requires.has)

pub overflow_add-base : goal.overflow_add-base
overflow_add-base c = omega (arith, base_of c.seat.inside c.self.inside c.args.seat.now c.args.self.now c.seat.view_is c.self.view_is c.requires.of c.self.invariant c.seat.invariant c.requires.has)

pub post_all-requires : goal.post_all-requires
post_all-requires c =
    let b = c.self.inside in
    let s = c.seat.inside in
    let of = of_board s b c.args.seat.now c.args.self.now c.seat.view_is c.self.view_is c.requires.of in
    let h = held_of s c.args.seat.now c.seat.view_is c.seat.invariant c.requires.has in
    let key = sym c.self.invariant.key in
    let known = of.sizes ∙ key in
    let seen : c.args.self.now.sizes ≡ b.table.shared.key = ap (λ i. i.sizes) (sym c.self.view_is) ∙ key in
    record {
      of = (of.table, c.self.invariant.words ∙ ap (λ (k : Sizes). 1 + sums k) key);
      sizes = (subst IsSizes key c.self.invariant.sizes, known);
      has = (c.seat.invariant.live, h.0, subst (λ (k : Sizes). s.number < pieces k) known h.1);
      place = ap (λ (k : Sizes). 1 + s.number / k.per_group * k.width) key;
      amounts = subst (λ (k : Sizes). (length c.args.amounts.now ≡ k.width) × All (λ a. a ≤ k.bound) c.args.amounts.now) seen (c.requires.width, c.requires.within);
    }
