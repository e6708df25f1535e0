use Rattle.std.proofs.Common.{arith, ◌≡◌, ◌<◌, ℕ, ◌+◌, ◌*◌, ◌/◌, ◌%◌, ◌^◌, List, [], length, take, get_or, Some, ap, ◌∙◌, sym, subst, refl}
use Rattle.std.proofs.lemmas.List.{length-take, take_all}
use mathlib.Core.Option.{none}
use Rattle.atomic_table.specs.Table.{step, Allows}
use Rattle.piece_claim.specs.declared.sizes.Sizes.{Sizes}
use Rattle.piece_claim.specs.State.{Seat, piece, seat}
use Rattle.piece_claim.specs.Moves.{CanPost, posted, with_piece}
use Rattle.atomic_sums.specs.Views.{Sat, SeatView, seen_by, Posts}
use Rattle.atomic_sums.specs.Rule.{Keeps}
use Rattle.atomic_sums.proofs.RuleSteps.{posts}
use Rattle.atomic_sums.proofs.Posting.{place_in, held_already, finished_now, one_of_all, still_held}
use Rattle.atomic_sums.proofs.board.post_all.Goals as goal

abbrev sat : SeatView → Seat → Sat → Sat
sat v w m = (seen_by v.sizes w v.last, m.1)

pub overflow_add-base : goal.overflow_add-base
overflow_add-base c =
    let k = c.args.shared.now.key in
    omega (arith, c.requires.place, place_in k c.args._n c.loop-i.i c.requires.sizes.0 c.requires.has.2 (omega (arith, c.loop-i-test.true, c.requires.amounts.0)), c.requires.sizes.0.words)

pub loop-i-init : goal.loop-i-init
loop-i-init c =
    let v = c.args.seat.now.me.0 in
    let some : 0 < v.sizes.width = subst (λ (k : Sizes). 0 < k.width) (sym c.requires.sizes.1) c.requires.sizes.0.width in
    (refl, ap (λ (w : Seat). sat v w c.args.seat.now.me) (held_already v.sizes.width v.seat (piece c.args._n []) c.requires.has.1 some))

pub fetch_add-requires : goal.fetch_add-requires
fetch_add-requires c =
    let k = c.args.shared.now.key in
    let v = c.args.seat.now.me.0 in
    let n = c.args._n in
    let i = c.loop-i.i in
    let all = c.args.amounts.now in
    let xs = take i all in
    let a = get_or all i 0 in
    let before : i < length all = c.loop-i-test.true in
    let long : length xs ≡ i = omega (arith, length-take i all) in
    let less : i < k.width = omega (arith, before, c.requires.amounts.0) in
    let short : length xs < v.sizes.width = omega (arith, ap (λ (s : Sizes). s.width) c.requires.sizes.1) in
    let hand = still_held v.sizes.width v.seat (piece n xs) short in
    let me : Sat = sat v (seat v.seat.shares v.seat.finished (Some (piece n xs)) v.seat.done v.seat.ended) c.args.seat.now.me in
    let is : c.loop-i.seat.me ≡ me = c.loop-i.invariant.1 ∙ ap (λ (w : Seat). sat v w c.args.seat.now.me) hand in
    let x = n / k.per_group * k.width + length xs in
    let inside = place_in k n i c.requires.sizes.0 c.requires.has.2 less in
    let can : CanPost k me.0.seat a = record { live = c.requires.has.0; has = omega (arith, long, less); within = c.requires.amounts.1 i 0 before } in
    let word : c.args.base + i ≡ 1 + x = omega (arith, c.requires.place, long) in
    let here = posts k c.args.shared.now.table_id.slots c.loop-i.seat.id x a me can refl in
    let P : Sat → ℕ → Type 0 = λ m q. Allows (Keeps k) c.args.shared.now.table_id.slots c.loop-i.seat.id m q (λ r. (r + a) % 2 ^ 64) (Posts (step c.args.shared.now.table_id.slots q a 0 none) m) in
    (c.loop-i.invariant.0 ∙ c.requires.of.0, omega (arith, c.requires.place, inside, c.requires.of.1), subst (λ m. P m (c.args.base + i)) (sym is) (subst (P me) (sym word) here))

pub loop-i-preserved : goal.loop-i-preserved
loop-i-preserved c =
    let v = c.args.seat.now.me.0 in
    let all = c.args.amounts.now in
    let step_of : Sat → Sat = λ m. (seen_by m.0.sizes (posted m.0.sizes.width m.0.seat (get_or all c.loop-i.i 0)) m.0.last, m.1) in
    let full : length all ≡ v.sizes.width = c.requires.amounts.0 ∙ ap (λ (s : Sizes). s.width) (sym c.requires.sizes.1) in (
      c.fetch_add.ensures.0 ∙ c.loop-i.invariant.0,
      c.fetch_add.ensures.2
          ∙ ap step_of c.loop-i.invariant.1
          ∙ ap (λ (w : Seat). sat v w c.args.seat.now.me) (one_of_all v.sizes.width v.seat c.args._n c.loop-i.i all c.loop-i-test.true full),
    )

pub returns-clause-posted : goal.returns-clause-posted
returns-clause-posted c =
    let v = c.args.seat.now.me.0 in
    let all = c.args.amounts.now in
    let end : take c.loop-i.i all ≡ all = take_all c.loop-i.i all (omega (arith, c.loop-i-test.false)) in
    let full : length all ≡ v.sizes.width = c.requires.amounts.0 ∙ ap (λ (s : Sizes). s.width) (sym c.requires.sizes.1) in
    c.loop-i.invariant.1
    ∙ ap (λ (l : List ℕ). sat v (with_piece v.sizes.width v.seat (piece c.args._n l)) c.args.seat.now.me) end
    ∙ ap (λ (w : Seat). sat v w c.args.seat.now.me) (finished_now v.sizes.width v.seat (piece c.args._n all) full)
