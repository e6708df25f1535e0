-- The values of a scan are small.
use Rattle.std.specs.Prelude.{slice_get, option_and_then, option_map}
use Rattle.std.proofs.Common.{◌≡◌, refl, subst, ℕ, zero, suc, ◌+◌, ◌*◌, ◌%◌, ◌^◌, ◌<◌, ◌≤◌, inl, inr, Bool, true, false, ◌&&◌, cond, leb, ℤ, pos, unsigned_abs, ◌+ℤ◌, ◌*ℤ◌, List, [], ◌∷◌, get_or, Option, Some, None, IfSome, All, arith}
use Rattle.std.proofs.lemmas.Int.{ints, unsigned_abs-mul}
use Rattle.std.proofs.lemmas.Nat.{mod_below, pow_pos, mul-le}
use Rattle.std.proofs.lemmas.Bool.Decides.{nat_tests}
use Rattle.std.proofs.lemmas.Option.{slice_get_within, get_or_from_slice_get}
use Rattle.fringe_rotator.specs.Table.{cosines, cos3, sin3}
use Rattle.sample_unpack.specs.Level.{IsWidth, level_of, level_at, code_at, bit_of}
use Rattle.corr_model.specs.Files.{Files}
use Rattle.corr_model.specs.Sample.{Timing, Recorded, level_in}
use Rattle.corr_model.specs.Delay.{DelayModel, delay_at, whole_at}
use Rattle.corr_model.specs.Rotated.{Band, turned, band_sector, value_at}
use Rattle.corr_model.specs.Cell.{IsSmall, AreSmall}
use Rattle.corr_model.proofs.CellLemmas.{within_abs}
use Rattle.job_plan.specs.declared.plan.StationPlan.{StationPlan}
use Rattle.job_plan.specs.declared.plan.StayPlan.{StayPlan}
use Rattle.job_plan.specs.declared.plan.ScanPlan.{ScanPlan}
use Rattle.job_plan.specs.declared.plan.Plan.{Plan}
use Rattle.job_plan.specs.Ranges.{IsPlan, IsStation}
use Rattle.job_plan.specs.Values.{rotated, stay_of, stay_value, station_value, band_value, station_sample, recorded_at, band_at, is_within, timing_of}

-- a cosine or a sine is -1, 0 or 1
are_units : List ℤ → Bool
are_units [] = true
are_units (x ∷ xs) = leb (unsigned_abs x) 1 && are_units xs

unit-head : (a b : Bool) → (a && b) ≡ true → a ≡ true
unit-head true b h = refl
unit-head false b h = h

unit-tail : (a b : Bool) → (a && b) ≡ true → b ≡ true
unit-tail true b h = h
unit-tail false b h = absurd (cc)

unit_at : (xs : List ℤ) (k : ℕ) → are_units xs ≡ true → unsigned_abs (get_or xs k (pos 0)) ≤ 1
unfolding are_units
unit_at [] k h = omega arith
unit_at (x ∷ xs) zero h =
    let one = unit-head (leb (unsigned_abs x) 1) (are_units xs) h in
    grind (arith, nat_tests, one)
unit_at (x ∷ xs) (suc k) h = unit_at xs k (unit-tail (leb (unsigned_abs x) 1) (are_units xs) h)

cos3-unit : (k : ℕ) → unsigned_abs (cos3 k) ≤ 1
unfolding are_units
cos3-unit k = unit_at cosines k refl

-- a level turned
turned-one : (level x : ℤ) → unsigned_abs level ≤ 15 → unsigned_abs x ≤ 1 → IsSmall (level *ℤ x)
turned-one level x h k =
    let small : unsigned_abs level * unsigned_abs x ≤ 15 * 1 = mul-le (unsigned_abs level) (unsigned_abs x) 15 1 h k in
    within_abs (level *ℤ x) 15 (omega (arith, unsigned_abs-mul level x, small))

turned-small : (level : ℤ) (sector : ℕ) → unsigned_abs level ≤ 15 → AreSmall (turned level sector)
turned-small level sector h =
    (turned-one level (cos3 sector) h (cos3-unit sector), turned-one level (sin3 sector) h (cos3-unit ((sector + 12) % 16)))

-- the level of a code
level-low : (bits code : ℕ) → 2 ^ bits ≤ 16 → code < 2 ^ bits → unsigned_abs (level_of bits code) ≤ 15
level-low bits code few below = omega (arith, ints, few, below)

few_codes : (bits : ℕ) → IsWidth bits → 2 ^ bits ≤ 16
few_codes bits (inl one) = rw one (omega arith)
few_codes bits (inr (inl two)) = rw two (omega arith)
few_codes bits (inr (inr four)) = rw four (omega arith)

level_at-low : (bits : ℕ) (array : List ℕ) (chans index i : ℕ) → IsWidth bits → unsigned_abs (level_at array bits chans index i) ≤ 15
level_at-low bits array chans index i width =
    level-low bits (code_at array bits (bit_of bits chans index i)) (few_codes bits width) (mod_below _ (2 ^ bits) (pow_pos bits))

-- what holds of the value of a step that may have none
IfSome-and_then : {A B : Type 0} (f : A → Option B) (o : Option A) (P : B → Type 0) → ((x : A) → o ≡ Some x → IfSome (f x) P)
    → IfSome (option_and_then f o) P
IfSome-and_then f None P each = tt
IfSome-and_then f (Some x) P each = each x refl

IfSome-map : {A B : Type 0} (f : A → B) (o : Option A) (P : B → Type 0) → ((x : A) → o ≡ Some x → P (f x)) → IfSome (option_map f o) P
IfSome-map f None P each = tt
IfSome-map f (Some x) P each = each x refl

IfSome-if : {A : Type 0} (b : Bool) (o : Option A) (P : A → Type 0) → IfSome o P → IfSome (cond b o None) P
IfSome-if true o P h = h
IfSome-if false o P h = tt

value_at-small : (sample : ℤ → Option ℤ) (model : DelayModel) (band : Band) (n : ℕ)
    → ((p : ℤ) (level : ℤ) → sample p ≡ Some level → unsigned_abs level ≤ 15) → IfSome (value_at sample model band n) AreSmall
unfolding value_at
value_at-small sample model band n low =
    let sector : ℕ = band_sector band model.rate (delay_at model n) in
    let place : ℤ = pos n +ℤ whole_at model n in
    IfSome-map (λ (level : ℤ). turned level sector) (sample place) AreSmall
    (λ level there. turned-small level sector (low place level there))

sample-low : (t : Timing) (r : Recorded) (found : Option (List ℕ)) (p level : ℤ) → IsWidth t.shape.bits
    → option_map (level_in t r.index p) found ≡ Some level → unsigned_abs level ≤ 15
sample-low t r None p level width is = absurd (cc)
sample-low t r (Some slot) p level width is =
    let same : level_in t r.index p slot ≡ level = cc in
    subst (λ (x : ℤ). unsigned_abs x ≤ 15) same (level_at-low _ _ _ _ _ width)

pub at-place : {X : Type 0} (P : X → Type 0) (xs : List X) (i : ℕ) (x : X) → All P xs → slice_get xs i ≡ Some x → P x
at-place P xs i x all there = subst P (get_or_from_slice_get xs i x x there) (all i x (slice_get_within xs i x there))

station_value-small : (plan : Plan) (files : Files) (scan : ScanPlan) (stay : StayPlan) (s : StationPlan) (chan n : ℕ)
    → IsStation plan s → IfSome (station_value plan files scan stay s chan n) AreSmall
station_value-small plan files scan stay s chan n is =
    IfSome-and_then _ (recorded_at s chan) AreSmall
    (λ r there. IfSome-and_then (λ band. band_value plan files scan s r band n) (band_at stay chan) AreSmall
    (λ band here. value_at-small (station_sample plan files scan s r) _ _ n
    (λ p level at. sample-low (timing_of plan scan s) (record { thread = r.thread; index = r.index }) _ p level
    is.bits at)))

-- each value of a scan of a plan has small components
pub rotated-small : (plan : Plan) (files : Files) (scan : ScanPlan) → IsPlan plan
    → (station chan : ℕ) (n : ℤ) → IfSome (rotated plan files scan station chan n) AreSmall
unfolding rotated
rotated-small plan files scan is station chan n =
    IfSome-and_then (λ stay. stay_value plan files scan stay chan n) (stay_of scan station) AreSmall
    (λ stay there. IfSome-if (is_within n stay.from stay.to) _ AreSmall
    (IfSome-and_then (λ s. station_value plan files scan stay s chan (unsigned_abs n)) (slice_get plan.stations stay.station)
    AreSmall
    (λ s at. station_value-small plan files scan stay s chan (unsigned_abs n)
    (at-place (IsStation plan) plan.stations stay.station s is.stations at))))
