-- A join keeps the invariant.
use Rattle.std.proofs.Common.{◌≡◌, ◌≢◌, ◌<◌, ◌≤◌, ℕ, ◌+◌, [], length, get_or, set, true, false, None, if◌then◌else◌, refl, sym, ap, ◌∙◌, arith, get_or-set_other}
use Rattle.std.specs.List.{sum_by}
use Rattle.std.proofs.lemmas.Bool.{false≢true}
use Rattle.std.proofs.lemmas.List.{length-set}
use Rattle.std.proofs.lemmas.List.Sums.{sum_by-set, sum_by-append}
use Rattle.std.proofs.lemmas.List.Elements.{All-set, All-append, All-nil}
use Rattle.piece_claim.specs.State.{Piece, Seat, BoardState, pieces, ended_seat, seat_at, held_by, weight, has_number, amount_at, live_shares, done_shares}
use Rattle.piece_claim.specs.Moves.{CanJoin, joined, after_join}
use Rattle.piece_claim.specs.Invariant.{IsSound, AmountsFit, AmountsWithin}
use Rattle.piece_claim.proofs.Weights.{part_free, live_inside}

pub keeps_join : (b : BoardState) (i j : ℕ) → IsSound b → i ≢ j → CanJoin (seat_at b i) (seat_at b j) → IsSound (after_join b i j)
keeps_join b i j sound differ can =
    let k = b.sizes in
    let v = seat_at b i in
    let w = seat_at b j in
    let both = joined v w in
    let front = set b.seats i both in
    let inside = live_inside b.seats i can.live in
    let inside' = live_inside b.seats j can.other_live in
    let there : get_or front j ended_seat ≡ w = get_or-set_other b.seats i j both ended_seat (λ e. differ (sym e)) in
    let long : j < length front = omega (arith, length-set b.seats i both) in
    let fit = sound.amounts i ended_seat inside in
    let fit' = sound.amounts j ended_seat inside' in
    let free = (sound.done i ended_seat inside can.over).0 in
    let free' = (sound.done j ended_seat inside' can.other_over).0 in
    let twice : (f : Seat → ℕ) → sum_by f (set front j ended_seat) + f v + f w ≡ sum_by f b.seats + f both + f ended_seat =
    λ f. omega (arith, sum_by-set f front j ended_seat ended_seat long, ap f there, sum_by-set f b.seats i both ended_seat inside) in
    let same : (f : Piece → ℕ) → weight f (set front j ended_seat) ≡ weight f b.seats = λ f. omega (
      arith,
      twice (λ u. sum_by f (held_by u)),
      part_free f v free,
      part_free f w free',
      part_free f both free,
      sum_by-append f v.finished w.finished,
    ) in
    let v_live : live_shares v ≡ v.shares = ap (λ e. if e then 0 else v.shares) can.live in
    let w_live : live_shares w ≡ w.shares = ap (λ e. if e then 0 else w.shares) can.other_live in
    let both_live : live_shares both ≡ v.shares + w.shares = ap (λ e. if e then 0 else v.shares + w.shares) can.live in
    let v_done : done_shares v ≡ v.shares = ap (λ d. if d then v.shares else 0) can.over in
    let w_done : done_shares w ≡ w.shares = ap (λ d. if d then w.shares else 0) can.other_over in
    let both_done : done_shares both ≡ v.shares + w.shares = ap (λ d. if d then v.shares + w.shares else 0) can.over in
    record {
      drawn = record { once = λ n lt. same (has_number n) ∙ sound.drawn.once n lt; no_other = λ n le. same (has_number n) ∙ sound.drawn.no_other n le };
      words = record { count = sound.words.count; each = λ x lt. sound.words.each x lt ∙ sym (same (amount_at k x)) };
      shares = record {
        total = omega (arith, twice live_shares, sound.shares.total, v_live, w_live, both_live);
        some = All-set (λ u. u.ended ≡ false → 0 < u.shares) front j ended_seat (λ e. absurd (false≢true (sym e)))
            (All-set (λ u. u.ended ≡ false → 0 < u.shares) b.seats i both (λ _. omega (arith, sound.shares.some i ended_seat inside can.live)) sound.shares.some);
        none = All-set (λ u. u.ended ≡ true → (u.shares ≡ 0) × (u.finished ≡ []) × (u.hand ≡ None)) front j ended_seat (λ _. (refl, refl, refl))
            (All-set (λ u. u.ended ≡ true → (u.shares ≡ 0) × (u.finished ≡ []) × (u.hand ≡ None)) b.seats i both (λ e. absurd (false≢true (sym can.live ∙ e))) sound.shares.none);
      };
      done = All-set (λ u. u.done ≡ true → (u.hand ≡ None) × (pieces k ≤ b.next)) front j ended_seat (λ e. absurd (false≢true e))
          (All-set (λ u. u.done ≡ true → (u.hand ≡ None) × (pieces k ≤ b.next)) b.seats i both (λ _. (free, (sound.done i ended_seat inside can.over).1)) sound.done);
      next = omega (arith, sound.next, twice done_shares, v_done, w_done, both_done);
      amounts = All-set (AmountsFit k) front j ended_seat record { finished = All-nil (λ p. (length p.amounts ≡ k.width) × AmountsWithin k.bound p); hand = tt }
          (All-set (AmountsFit k) b.seats i both record {
            finished = All-append (λ p. (length p.amounts ≡ k.width) × AmountsWithin k.bound p) v.finished w.finished fit.finished fit'.finished;
            hand = fit.hand;
          } sound.amounts);
    }
