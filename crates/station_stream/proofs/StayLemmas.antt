-- The stream of a station's part of a scan, in its window and among the scan's stays.
use Rattle.std.proofs.Common.{◌≡◌, ℕ, zero, suc, ◌==◌, ℤ, pos, ◌≤ℤ◌, ◌<ℤ◌, int_le, int_lt, Bool, true, false, cond, ◌&&◌, List, [], ◌∷◌, Some, None, is_some, refl, ap, ◌∙◌, arith}
use Rattle.std.specs.List.{slice_get, find}
use Rattle.std.proofs.lemmas.Bool.Decides.{nat_tests}
use Rattle.std.proofs.lemmas.Int.{ints}
use Rattle.job_plan.specs.declared.plan.StayPlan.{StayPlan}
use Rattle.job_plan.specs.declared.plan.ScanPlan.{ScanPlan}
use Rattle.job_plan.specs.Values.{stay_of}
use Rattle.station_stream.specs.Stream.{StreamFields, IsOfWindow, stream_value, windowed}

-- inside the window
pub windowed-inside : (s : StreamFields) (from to : ℕ) (chan : ℕ) (n : ℤ)
    → IsOfWindow from to s → pos from ≤ℤ n → n <ℤ pos to → windowed s chan n ≡ stream_value s chan n
windowed-inside s from to chan n is begun under =
    let begins : s.from ≡ pos from = is.begin in
    let ends : s.to ≡ pos to = is.end in
    let first : int_le s.from n ≡ true = grind (arith, ints) in
    let last : int_lt n s.to ≡ true = grind (arith, ints) in
    ap (λ (b : Bool). cond (b && int_lt n s.to) (stream_value s chan n) None) first
    ∙ ap (λ (b : Bool). cond b (stream_value s chan n) None) last

-- an item that passes is found, or one before it
is_some-find : {X : Type 0} (p : X → Bool) (xs : List X) (i : ℕ) (x : X)
    → slice_get xs i ≡ Some x → p x ≡ true → is_some (find p xs) ≡ true
is_some-find p [] i x at passes = absurd (cc)
is_some-find p (y ∷ xs) zero x at passes =
    let same : y ≡ x = cc in
    ap (λ (b : Bool). is_some (cond b (Some y) (find p xs))) (ap p same ∙ passes)
is_some-find p (y ∷ xs) (suc i) x at passes =
    elim (p y) as (λ (b : Bool). is_some (cond b (Some y) (find p xs)) ≡ true) [ true ↦ refl | false ↦ is_some-find p xs i x at passes ]

-- a station of the scan's stays stands in the scan
pub is_some-stay_of : (scan : ScanPlan) (i : ℕ) (stay : StayPlan) → slice_get scan.stays i ≡ Some stay → is_some (stay_of scan stay.station) ≡ true
is_some-stay_of scan i stay at =
    let same : (stay.station == stay.station) ≡ true = grind (arith, nat_tests) in
    is_some-find (λ (s : StayPlan). s.station == stay.station) scan.stays i stay at same
