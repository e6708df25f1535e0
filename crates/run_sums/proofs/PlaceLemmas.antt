-- The values of a station are those of the planes at its place, and a scan has at most 32 stations' parts.
use Rattle.std.specs.Prelude.{slice_get}
use Rattle.std.specs.List.{position, position_or_len}
use Rattle.std.proofs.Common.{◌≡◌, ℕ, zero, suc, ◌==◌, ◌<◌, ◌≤◌, nat_lt, Bool, true, cond, not, ℤ, List, [], ◌∷◌, length, get_or, Some, None, option_and_then, All, AllPairs, sym, ap, ◌∙◌, ⊎_elim, arith}
use Rattle.std.proofs.lemmas.Bool.{cases_lt}
use Rattle.std.proofs.lemmas.Bool.Decides.{nat_tests}
use Rattle.std.proofs.lemmas.List.{get_or_past}
use Rattle.std.proofs.lemmas.List.Folds.{find_at}
use Rattle.std.proofs.lemmas.List.Sums.{prefix_len-le-length}
use Rattle.std.proofs.lemmas.Option.{slice_get_cases}
use Rattle.bit_planes.specs.Planes.{PlanesFields}
use Rattle.corr_model.specs.Cell.{Value}
use Rattle.corr_model.specs.Files.{Files}
use Rattle.job_plan.specs.declared.plan.StayPlan.{StayPlan}
use Rattle.job_plan.specs.declared.plan.ScanPlan.{ScanPlan}
use Rattle.job_plan.specs.declared.plan.Plan.{Plan}
use Rattle.job_plan.specs.Ranges.{IsPlan, IsScanPlan, IsStay}
use Rattle.job_plan.specs.Values.{stay_value, rotated}
use Rattle.epoch_run.specs.Planes.{chans_value, planed}
use Rattle.run_sums.specs.Pairs.{place_in}

-- ---- the place of a station

-- the first place in a list, where there is one
position-there : {X : Type 0} (p : X → Bool) (xs : List X) → position_or_len p xs < length xs → position p xs ≡ Some (position_or_len p xs)
position-there p xs there =
    let test : nat_lt (position_or_len p xs) (length xs) ≡ true = grind (arith, nat_tests) in
    ap (λ (b : Bool). cond b (Some (position_or_len p xs)) None) test

-- where no item passes
pub position_or_len-None : {X : Type 0} (p : X → Bool) (xs : List X) → position p xs ≡ None → length xs ≡ position_or_len p xs
position_or_len-None p xs is =
    ⊎_elim
    (λ there. let at = position-there p xs there in absurd (cc))
    (λ past. omega (arith, past, prefix_len-le-length (λ x. not (p x)) xs))
    (cases_lt (position_or_len p xs) (length xs))

-- ---- the planes at a place

-- past the last station there are none
planed-past : (planes : List (List PlanesFields)) (place chan : ℕ) (n : ℤ) → length planes ≤ place → planed planes place chan n ≡ None
planed-past planes place chan n past = ap (λ (chans : List PlanesFields). chans_value chans chan n) (get_or_past planes place [] past)

-- planes that hold the value of the part at a place hold none where there is no part
planed-at : (planes : List (List PlanesFields)) (stays : List StayPlan) (value : StayPlan → Value) (place chan : ℕ) (n : ℤ) → length planes ≡ length stays
    → ((stay : StayPlan) → slice_get stays place ≡ Some stay → planed planes place chan n ≡ value stay)
    → planed planes place chan n ≡ option_and_then value (slice_get stays place)
planed-at planes stays value place chan n count holds =
    ⊎_elim
    (λ there. holds there.0 there.2 ∙ sym (ap (option_and_then value) there.2))
    (λ past. planed-past planes place chan n (omega (arith, count, past.0)) ∙ sym (ap (option_and_then value) past.1))
    (slice_get_cases stays place).1

-- the planes at a station's place hold the station's values, where those at each place hold the values of the part there
pub planed-place : (plan : Plan) (files : Files) (scan : ScanPlan) (planes : List (List PlanesFields)) (station chan : ℕ) (n : ℤ) → length planes ≡ length scan.stays
    → ((place : ℕ) (stay : StayPlan) → slice_get scan.stays place ≡ Some stay → planed planes place chan n ≡ stay_value plan files scan stay chan n)
    → planed planes (place_in scan station) chan n ≡ rotated plan files scan station chan n
unfolding rotated
planed-place plan files scan planes station chan n count holds =
    let value : StayPlan → Value = λ stay. stay_value plan files scan stay chan n in
    planed-at planes scan.stays value (place_in scan station) chan n count (holds (place_in scan station))
    ∙ sym (ap (option_and_then value) (find_at (λ (stay : StayPlan). stay.station == station) scan.stays))

-- ---- few parts

-- stays in order have rising numbers of stations
station-after : (stays : List StayPlan) (d : StayPlan) → AllPairs (λ (s t : StayPlan). s.station < t.station) stays
    → (k : ℕ) → k < length stays → k ≤ (get_or stays k d).station
station-after stays d rising zero there = omega arith
station-after stays d rising (suc k) there =
    omega (arith, station-after stays d rising k (omega arith), rising k (suc k) d (omega arith) there)

few : (plan : Plan) (scan : ScanPlan) (stays : List StayPlan) → length plan.stations ≤ 32 → All (IsStay plan scan) stays
    → AllPairs (λ (s t : StayPlan). s.station < t.station) stays → length stays ≤ 32
few plan scan [] most each rising = omega arith
few plan scan (stay ∷ stays) most each rising =
    omega (arith, most, station-after (stay ∷ stays) stay rising (length stays) (omega arith), (each (length stays) stay (omega arith)).station)

-- so a scan has no more of them than the plan has stations
pub stays-few : (plan : Plan) (scan : ScanPlan) → IsPlan plan → IsScanPlan plan scan → length scan.stays ≤ 32
stays-few plan scan is of = few plan scan scan.stays is.few_stations of.stays of.in_order
