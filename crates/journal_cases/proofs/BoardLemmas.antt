-- The totals of an epoch's board.
use Rattle.std.proofs.Common.{◌≡◌, ℕ, ◌*◌, ◌/◌, ◌%◌, ◌^◌, ◌<◌, ◌≤◌, length, Result, Ok, Err, IfOk, All, arith, ap}
use Rattle.std.proofs.lemmas.List.Elements.{All-weaker}
use Rattle.std.proofs.lemmas.List.FromFn.{length-map-range_with_len}
use Rattle.piece_claim.specs.declared.sizes.Sizes.{Sizes}
use Rattle.piece_claim.specs.State.{Seat}
use Rattle.piece_claim.specs.Invariant.{IsSizes}
use Rattle.piece_claim.specs.Laws.{WordsAreBounded}
use Rattle.atomic_sums.specs.Seats.{LastState}
use Rattle.atomic_sums.specs.Sums.{Totals, cell_at, unbiased}
use Rattle.atomic_sums.proofs.Totals.{totals_within}
use Rattle.journal_cases.specs.Group.{IsGroup}

-- one piece stays below 2^62
amounts-small : (k : Sizes) → IsGroup k → k.per_group * k.bound ≤ 4611686018427387900
amounts-small k is = let bound : k.per_group * k.bound ≡ k.per_group * 1152921504606846975 = ap (λ (b : ℕ). k.per_group * b) is.bound in omega (arith, bound, is.few)

one-group : (k : Sizes) (n : ℕ) → IsGroup k → k.groups * n ≡ n
one-group k n is = let one : k.groups * n ≡ 1 * n = ap (λ (g : ℕ). g * n) is.groups in omega (arith, one)

IsSizes-group : (k : Sizes) → IsGroup k → IsSizes k
IsSizes-group k is = record {
  groups = omega (arith, is.groups);
  per_group = is.some;
  width = is.wide;
  bound = omega (arith, is.bound);
  shares = omega (arith, is.shares);
  few = omega (arith, is.shares);
  fits = omega (arith, amounts-small k is);
  room = omega (arith, one-group k k.per_group is, is.few, is.shares);
  words = omega (arith, one-group k k.width is, is.narrow);
}

-- as many as a piece has amounts, and below 2^62
pub totals_small : {E : Type 0} (k : Sizes) (v : Seat) (r : Result Totals E) → WordsAreBounded → IsGroup k → LastState k v (λ words. IfOk r (λ t. t.totals ≡ words))
    → IfOk r (λ t. (length t.totals ≡ k.width) × All (λ x. x < 2 ^ 62) t.totals)
totals_small k v (Err e) bounded is last = tt
totals_small {E} k v (Ok t) bounded is last =
    let within : (length t.totals ≡ k.width) × All (λ x. x ≤ 4611686018427387900) t.totals =
    totals_within {E = E} k v (Ok t) k.width 4611686018427387900 bounded (IsSizes-group k is) (one-group k k.width is) (amounts-small k is) last in
    (within.0, All-weaker (λ x. x ≤ 4611686018427387900) (λ x. x < 2 ^ 62) (λ x le. omega (arith, le)) t.totals within.1)

-- three of them make a cell
pub length-cells : (bias width : ℕ) (t : Totals) → length t.totals ≡ width → width % 3 ≡ 0 → 3 * length (unbiased bias t).cells ≡ width
length-cells bias width t many thirds = omega (arith, many, thirds, length-map-range_with_len (cell_at bias t.totals) 0 (length t.totals / 3))
