-- A split keeps the invariant.
use Rattle.std.proofs.Common.{◌≡◌, ◌≢◌, ◌<◌, ◌≤◌, ℕ, ◌+◌, ◌-◌, [], ◌∷◌, ◌++◌, set, true, false, None, if◌then◌else◌, sym, ap, ◌∙◌, arith}
use Rattle.std.proofs.lemmas.Bool.{false≢true}
use Rattle.std.proofs.lemmas.List.Sums.{sum_by-set, sum_by_push}
use Rattle.std.proofs.lemmas.List.Elements.{All-set, All-push, All-nil}
use Rattle.piece_claim.specs.State.{Piece, BoardState, pieces, new_seat, ended_seat, seat_at, weight, has_number, amount_at, live_shares, done_shares}
use Rattle.piece_claim.specs.Moves.{CanSplit, one_less, after_split}
use Rattle.piece_claim.specs.Invariant.{IsSound, AmountsFit, AmountsWithin}
use Rattle.piece_claim.proofs.Weights.{weight-set, weight_push, live_inside}

pub keeps_split : (b : BoardState) (i : ℕ) → IsSound b → CanSplit (seat_at b i) → IsSound (after_split b i)
keeps_split b i sound can =
    let k = b.sizes in
    let v = seat_at b i in
    let w = one_less v in
    let one = new_seat 1 in
    let front = set b.seats i w in
    let inside = live_inside b.seats i can.live in
    let fit = sound.amounts i ended_seat inside in
    let same : (f : Piece → ℕ) → weight f (front ++ one ∷ []) ≡ weight f b.seats = λ f. omega (arith, weight_push f front one, weight-set f b.seats i w inside) in
    record {
      drawn = record { once = λ n lt. same (has_number n) ∙ sound.drawn.once n lt; no_other = λ n le. same (has_number n) ∙ sound.drawn.no_other n le };
      words = record { count = sound.words.count; each = λ x lt. sound.words.each x lt ∙ sym (same (amount_at k x)) };
      shares = record {
        total =
            let old : live_shares v ≡ v.shares = ap (λ e. if e then 0 else v.shares) can.live in
            let new : live_shares w ≡ v.shares - 1 = ap (λ e. if e then 0 else v.shares - 1) can.live in
            omega (arith, sum_by_push live_shares front one, sum_by-set live_shares b.seats i w ended_seat inside, sound.shares.total, old, new, can.shares);
        some = All-push (λ u. u.ended ≡ false → 0 < u.shares) front one
            (All-set (λ u. u.ended ≡ false → 0 < u.shares) b.seats i w (λ _. omega (arith, can.shares)) sound.shares.some) (λ _. omega arith);
        none = All-push (λ u. u.ended ≡ true → (u.shares ≡ 0) × (u.finished ≡ []) × (u.hand ≡ None)) front one
            (All-set (λ u. u.ended ≡ true → (u.shares ≡ 0) × (u.finished ≡ []) × (u.hand ≡ None)) b.seats i w (λ e. absurd (false≢true (sym can.live ∙ e))) sound.shares.none)
            (λ e. absurd (false≢true e));
      };
      done = All-push (λ u. u.done ≡ true → (u.hand ≡ None) × (pieces k ≤ b.next)) front one
          (All-set (λ u. u.done ≡ true → (u.hand ≡ None) × (pieces k ≤ b.next)) b.seats i w (λ e. absurd (false≢true (sym can.busy ∙ e))) sound.done)
          (λ e. absurd (false≢true e));
      next =
          let was : done_shares v ≡ 0 = ap (λ d. if d then v.shares else 0) can.busy in
          let is : done_shares w ≡ 0 = ap (λ d. if d then v.shares - 1 else 0) can.busy in
          omega (arith, sound.next, sum_by_push done_shares front one, sum_by-set done_shares b.seats i w ended_seat inside, was, is);
      amounts = All-push (AmountsFit k) front one
          (All-set (AmountsFit k) b.seats i w record { finished = fit.finished; hand = fit.hand } sound.amounts)
          record { finished = All-nil (λ p. (Rattle.std.proofs.Common.length p.amounts ≡ k.width) × AmountsWithin k.bound p); hand = tt };
    }
