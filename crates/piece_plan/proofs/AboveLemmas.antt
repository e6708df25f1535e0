-- The first number above i, among numbers of which the last is.
use Rattle.std.proofs.Common.{◌≡◌, ℕ, ◌-◌, ◌<◌, ◌≤◌, ⊎_elim, leb, List, length, get_or, true, false, arith}
use Rattle.std.specs.List.Sorted.{IsPartitionPoint}
use Rattle.std.proofs.lemmas.Bool.{cases_lt, leb-true, leb-false}

pub record IsFirstAbove (ends : List ℕ) (i at : ℕ) : Type 0 where
  pub within : at < length ends
  pub above : i < get_or ends at 0
  pub before : (k : ℕ) → k < at → get_or ends k 0 ≤ i

pub first_above : (ends : List ℕ) (i at : ℕ) → i < get_or ends (length ends - 1) 0
    → IsPartitionPoint (λ (y : ℕ). leb y i ≡ true) (λ (y : ℕ). leb y i ≡ false) ends at → at ≤ length ends
    → 0 < length ends
    → IsFirstAbove ends i at
first_above ends i at last point bound some =
    let before : (k : ℕ) → k < at → get_or ends k 0 ≤ i = λ k below. leb-true (get_or ends k 0) i (point.0 k 0 (omega arith) below) in
    let within : at < length ends =
    ⊎_elim
    (λ inside. inside)
    (λ past.
    let low : get_or ends (length ends - 1) 0 ≤ i = before (length ends - 1) (omega arith) in
    absurd (omega (arith, low, last)))
    (cases_lt at (length ends)) in
    record {
      within = within;
      above = leb-false (get_or ends at 0) i (point.1 at 0 (omega arith) within);
      before = before;
    }
