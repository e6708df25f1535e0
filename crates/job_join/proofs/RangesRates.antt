-- The sample rate of a job is that of a station's part in some scan, and goes into frames.
use Rattle.std.specs.Int.{div_ceil}
use Rattle.std.specs.List.{enumerate_from, list_any}
use Rattle.std.specs.Prelude.{flat_map}
use Rattle.std.proofs.Common.{◌≡◌, ap, refl, ℕ, ◌+◌, ◌*◌, ◌/◌, ◌%◌, ◌<◌, ◌≤◌, min, zero, suc, true, false, not, List, [], ◌∷◌, length, All, IfSome, Option, None, Some, is_some, option_map, unwrap_or, slice_get, arith, div-add-mod'}
use Rattle.std.proofs.lemmas.Bool.{not-false}
use Rattle.std.proofs.lemmas.List.Elements.{All-weaker, All-head, All-filter}
use Rattle.std.proofs.lemmas.Nat.{mul-le, mod_below}
use Rattle.scan_list.specs.declared.scan.Pass.{Pass}
use Rattle.scan_list.specs.declared.scan.Scan.{Scan}
use Rattle.job_text.specs.Job.{JobFields, StationFields}
use Rattle.job_join.specs.Standing.{Stand, stand_in, stands_in, pass_with, taken, is_taken, rate_of, unknown_station}
use Rattle.job_join.proofs.RangesLists.{option_map-none, filter_map-none, flat_map-none, first-none, list_any-none, position-None, All-from_enumerate, All-flat_map}
use Rattle.job_join.proofs.RangesStands.{stands-All}

-- where no station stands each lacks a part
nobody : (job : JobFields) (scan : Scan) → stands_in job scan ≡ [] → All (λ s. pass_with scan s.key ≡ None) job.stations
unfolding stands_in
nobody job scan none =
    All-from_enumerate (λ s. pass_with scan s.key ≡ None) 0 job.stations
    (All-weaker (λ e. stand_in scan e ≡ None) (λ e. pass_with scan e.1.key ≡ None) (λ e is. option_map-none _ _ is) (enumerate_from 0 job.stations)
    (filter_map-none (stand_in scan) (enumerate_from 0 job.stations) none))

-- a station that is known stands in some scan
somebody : (stations : List StationFields) (scans : List Scan) → 1 ≤ length stations
    → All (λ s. not (list_any (λ scan. is_some (pass_with scan s.key)) scans) ≡ false) stations
    → All (λ scan. All (λ s. pass_with scan s.key ≡ None) stations) scans → ⊥
somebody [] scans some known none = absurd (omega arith)
somebody (s ∷ stations) scans some known none =
    let there : list_any (λ scan. is_some (pass_with scan s.key)) scans ≡ true =
    not-false _ (All-head (λ s. not (list_any (λ scan. is_some (pass_with scan s.key)) scans) ≡ false) s stations known) in
    let nowhere : list_any (λ scan. is_some (pass_with scan s.key)) scans ≡ false =
    list_any-none (λ scan. is_some (pass_with scan s.key)) scans
    (All-weaker (λ scan. All (λ s. pass_with scan s.key ≡ None) stations') (λ scan. is_some (pass_with scan s.key) ≡ false)
    (λ scan lacks. ap is_some (All-head (λ s. pass_with scan s.key ≡ None) s stations lacks)) scans none) in
    absurd cc
  where
    stations' : List StationFields
    stations' = s ∷ stations

nobody-anywhere : (job : JobFields) (scans : List Scan) → unknown_station job scans ≡ None → 1 ≤ length job.stations
    → flat_map (stands_in job) (taken job scans) ≡ [] → ⊥
unfolding unknown_station
nobody-anywhere job scans known some none =
    somebody job.stations (taken job scans) some (position-None _ job.stations known)
    (All-weaker (λ scan. stands_in job scan ≡ []) (λ scan. All (λ s. pass_with scan s.key ≡ None) job.stations) (nobody job) (taken job scans)
    (flat_map-none (stands_in job) (taken job scans) none))

-- what holds of each scan holds of those that are taken
pub taken-All : (P : Scan → Type 0) (job : JobFields) (scans : List Scan) → All P scans → All P (taken job scans)
unfolding taken
taken-All P job scans all = All-filter (is_taken job.takes) P scans all

stands-anywhere : (P : Pass → Type 0) (job : JobFields) (scans : List Scan) → All (λ scan. All P scan.passes) scans
    → All (λ s. P s.pass) (flat_map (stands_in job) (taken job scans))
stands-anywhere P job scans all =
    All-flat_map (λ s. P s.pass) (stands_in job) (taken job scans)
    (All-weaker (λ scan. All P scan.passes) (λ scan. All (λ s. P s.pass) (stands_in job scan)) (stands-All P job) (taken job scans)
    (taken-All (λ scan. All P scan.passes) job scans all))

first-All : {X : Type 0} (P : X → Type 0) (xs : List X) → All P xs → IfSome (slice_get xs 0) P
first-All P [] all = tt
first-All P (x ∷ xs) all = All-head P x xs all

-- what holds of the rates of all parts holds of the job's
pub rate_of-All : (P : ℕ → Type 0) (job : JobFields) (scans : List Scan) → unknown_station job scans ≡ None → 1 ≤ length job.stations
    → All (λ scan. All (λ p. P p.rate) scan.passes) scans → P (rate_of job scans)
unfolding rate_of
rate_of-All P job scans known some all =
    by (slice_get (flat_map (stands_in job) (taken job scans)) 0) (λ none. nobody-anywhere job scans known some (first-none _ none))
    (first-All (λ (s : Stand). P s.pass.rate) _ (stands-anywhere (λ (p : Pass). P p.rate) job scans all))
  where
    by : (o : Option Stand) → (o ≡ None → ⊥) → IfSome o (λ s. P s.pass.rate) → P (unwrap_or (option_map (λ (s : Stand). s.pass.rate) o) 0)
    by None some first = absurd (some refl)
    by (Some s) some first = first

below_parts : (quotient rest rate most : ℕ) → rest < rate → quotient + min 1 rest ≤ most → quotient * rate + rest ≤ most * rate
below_parts quotient zero rate most less few = omega (arith, mul-le quotient rate most rate (omega arith) (omega arith))
below_parts quotient (suc rest) rate most less few = omega (arith, mul-le (quotient + 1) rate most rate (omega arith) (omega arith))

-- so many whole seconds at most are so many samples
pub samples-from_seconds : (samples rate most : ℕ) → 0 < rate → div_ceil samples rate ≤ most → samples ≤ most * rate
samples-from_seconds samples rate most some few =
    omega (arith, div-add-mod' samples rate, below_parts (samples / rate) (samples % rate) rate most (mod_below samples rate some) few)

some_quotient : (quotient a b : ℕ) → 0 < a → quotient * b + 0 ≡ a → 0 < quotient
some_quotient zero a b some is = omega arith
some_quotient (suc quotient) a b some is = omega arith

-- what is divided without a rest
pub divided : (a b : ℕ) → a % b ≡ 0 → a ≡ a / b * b
divided a b none = omega (arith, div-add-mod' a b, none)

pub divided-some : (a b : ℕ) → 0 < a → a % b ≡ 0 → 0 < a / b
divided-some a b some none = some_quotient (a / b) a b some (omega (arith, divided a b none))
