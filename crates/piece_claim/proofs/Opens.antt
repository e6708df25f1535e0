-- A board at the start.
use Rattle.std.proofs.Common.{◌≡◌, ◌<◌, ◌≤◌, ℕ, ◌+◌, ◌-◌, ◌*◌, ◌^◌, [], ◌∷◌, length, true, false, None, sym, ◌∙◌, arith}
use Rattle.std.specs.List.{sum_by}
use Rattle.std.proofs.lemmas.Bool.{false≢true}
use Rattle.std.proofs.lemmas.Nat.{div-add-mod', le-div}
use Rattle.std.proofs.lemmas.List.{length-replicate, get_or-replicate}
use Rattle.std.proofs.lemmas.List.Sums.{sum_by-cons}
use Rattle.std.proofs.lemmas.List.Elements.{All-cons, All-nil}
use Rattle.piece_claim.specs.declared.sizes.Sizes.{Sizes}
use Rattle.piece_claim.specs.State.{Piece, Seat, pieces, sums, new_seat, held_by, weight, has_number, amount_at, live_shares, opening, widest}
use Rattle.piece_claim.specs.Invariant.{IsSizes, IsSound, AmountsFit, AmountsWithin}

pub opens : (k : Sizes) → IsSizes k → IsSound (opening k)
opens k sizes =
    let one = new_seat k.shares in
    let none : (f : Piece → ℕ) → weight f (one ∷ []) ≡ 0 = λ f. omega (arith, sum_by-cons (λ (v : Seat). sum_by f (held_by v)) one []) in
    record {
      drawn = record { once = λ n lt. absurd (omega arith); no_other = λ n le. none (has_number n) };
      words = record {
        count = length-replicate (sums k) 0;
        each = λ w lt. get_or-replicate (sums k) w 0 0 lt ∙ sym (none (amount_at k w));
      };
      shares = record {
        total = omega (arith, sum_by-cons live_shares one []);
        some = All-cons (λ v. v.ended ≡ false → 0 < v.shares) one [] (λ _. sizes.shares) (All-nil (λ v. v.ended ≡ false → 0 < v.shares));
        none = All-cons (λ v. v.ended ≡ true → (v.shares ≡ 0) × (v.finished ≡ []) × (v.hand ≡ None)) one [] (λ e. absurd (false≢true e)) (All-nil (λ v. v.ended ≡ true → (v.shares ≡ 0) × (v.finished ≡ []) × (v.hand ≡ None)));
      };
      done = All-cons (λ v. v.done ≡ true → (v.hand ≡ None) × (pieces k ≤ 0)) one [] (λ e. absurd (false≢true e)) (All-nil (λ v. v.done ≡ true → (v.hand ≡ None) × (pieces k ≤ 0)));
      next = omega arith;
      amounts = All-cons (AmountsFit k) one [] record { finished = All-nil (λ p. (length p.amounts ≡ k.width) × AmountsWithin k.bound p); hand = tt } (All-nil (AmountsFit k));
    }

-- with the widest bound no sum passes 64 bits
pub IsSizes-widest : (groups per_group width shares : ℕ) → 0 < groups → 0 < per_group → 0 < width → 0 < shares → groups * per_group + shares < 2 ^ 64 → groups * width < 2 ^ 32 → shares ≤ 64 → per_group < 2 ^ 64 → IsSizes (widest groups per_group width shares)
IsSizes-widest groups per_group width shares some_groups some_per some_width some_shares room words few fits = record {
  groups = some_groups;
  per_group = some_per;
  width = some_width;
  bound = le-div 1 (2 ^ 64 - 1) per_group some_per (omega arith);
  shares = some_shares;
  few = few;
  fits = omega (arith, div-add-mod' (2 ^ 64 - 1) per_group);
  room = room;
  words = words;
}
