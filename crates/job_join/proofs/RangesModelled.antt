-- The stations of a plan's scan have a delay model and a clock at each of its samples.
use Rattle.std.specs.Prelude.{flat_map}
use Rattle.std.proofs.Common.{◌≡◌, ◌∙◌, sym, ap, subst, ℕ, ◌==◌, ℤ, pos, unsigned_abs, Bool, true, List, [], ◌∷◌, ◌++◌, map, All, None, Some, option_map, is_some, slice_get, get_or, arith}
use Rattle.std.proofs.lemmas.Bool.{eqb-true, not-false}
use Rattle.std.proofs.lemmas.Int.{ints}
use Rattle.std.proofs.lemmas.List.Elements.{All-nil, All-cons, All-head, All-tail, All-weaker}
use Rattle.std.proofs.lemmas.Option.{slice_get-map, same_Some}
use Rattle.num_time.specs.Times.{IsSecond}
use Rattle.corr_model.specs.Delay.{DelayModel, has_model, has_clock}
use Rattle.delay_track.specs.Model.{delay_model}
use Rattle.scan_list.specs.declared.scan.Scan.{Scan}
use Rattle.job_plan.specs.declared.plan.StationPlan.{StationPlan}
use Rattle.job_plan.specs.declared.plan.StayPlan.{StayPlan}
use Rattle.job_plan.specs.Values.{stay_of, model_of}
use Rattle.job_plan.specs.Ranges.{IsModelled}
use Rattle.job_text.specs.Job.{JobFields, StationFields}
use Rattle.job_join.specs.Standing.{Stand, stands_in, taken, rate_of}
use Rattle.job_join.specs.Spans.{samples_of}
use Rattle.job_join.specs.Modelled.{model_in, stays_taken, first_failing, no_model, no_clock}
use Rattle.job_join.specs.Joined.{station_plan, stay_plan, scan_plan, plan_by}
use Rattle.job_join.proofs.RangesLists.{find-None, option_map-none, found-of, All-from_map}
use Rattle.job_join.proofs.RangesStands.{IsStand, stands-there}

All-front : {X : Type 0} (P : X → Type 0) (xs ys : List X) → All P (xs ++ ys) → All P xs
All-front P [] ys all = All-nil P
All-front P (x ∷ xs) ys all = All-cons P x xs (All-head P x (xs ++ ys) all) (All-front P xs ys (All-tail P x (xs ++ ys) all))

All-behind : {X : Type 0} (P : X → Type 0) (xs ys : List X) → All P (xs ++ ys) → All P ys
All-behind P [] ys all = all
All-behind P (x ∷ xs) ys all = All-behind P xs ys (All-tail P x (xs ++ ys) all)

All-from_flat_map : {X Y : Type 0} (P : Y → Type 0) (f : X → List Y) (xs : List X) → All P (flat_map f xs) → All (λ x. All P (f x)) xs
All-from_flat_map P f [] all = All-nil (λ x. All P (f x))
All-from_flat_map P f (x ∷ xs) all =
    All-cons (λ x. All P (f x)) x xs (All-front P (f x) (flat_map f xs) all) (All-from_flat_map P f xs (All-behind P (f x) (flat_map f xs) all))

-- where none fails each station of each scan passes
none_fails : (test : DelayModel → ℕ → Bool) (job : JobFields) (scans : List Scan) → first_failing test job scans ≡ None
    → All (λ scan. All (λ s. test (model_in job (rate_of job scans) scan s.station) (samples_of job (rate_of job scans) scan) ≡ true) (stands_in job scan)) (taken job scans)
none_fails test job scans none = λ k d less.
    let scan : Scan = get_or (taken job scans) k d in
    All-from_map Passes (λ s. (scan, s)) (stands_in job scan) (All-from_flat_map Passes (λ scan. map (λ s. (scan, s)) (stands_in job scan)) (taken job scans) each k d less)
  where
    Passes : Scan × Stand → Type 0
    Passes x = test (model_in job (rate_of job scans) x.0 x.1.station) (samples_of job (rate_of job scans) x.0) ≡ true

    each : All Passes (stays_taken job scans)
    each = All-weaker _ Passes (λ x is. not-false _ is) (stays_taken job scans) (find-None _ (stays_taken job scans) (option_map-none _ _ none))

pub models-there : (job : JobFields) (scans : List Scan) → no_model job scans ≡ None
    → All (λ scan. All (λ s. has_model (model_in job (rate_of job scans) scan s.station) (samples_of job (rate_of job scans) scan) ≡ true) (stands_in job scan)) (taken job scans)
unfolding no_model
models-there job scans none = none_fails has_model job scans none

pub clocks-there : (job : JobFields) (scans : List Scan) → no_clock job scans ≡ None
    → All (λ scan. All (λ s. has_clock (model_in job (rate_of job scans) scan s.station) (samples_of job (rate_of job scans) scan) ≡ true) (stands_in job scan)) (taken job scans)
unfolding no_clock
clocks-there job scans none = none_fails has_clock job scans none

pub second-same : (second : ℤ) → IsSecond second → pos (unsigned_abs second) ≡ second
second-same second is = omega (arith, ints)

-- a station that stands in a scan, with a model and a clock
record IsSound (job : JobFields) (rate : ℕ) (scan : Scan) (s : Stand) : Type 0 where
  stands : IsStand job scan s
  model : has_model (model_in job rate scan s.station) (samples_of job rate scan) ≡ true
  clock : has_clock (model_in job rate scan s.station) (samples_of job rate scan) ≡ true

module _ (job : JobFields) (rate : ℕ) (channels : List (List ℕ)) (scans : List Scan) (scan : Scan) where
  model-same : (s : StationFields) → IsSecond scan.second
      → model_of (plan_by job rate channels scans) (scan_plan job rate channels scan) (station_plan rate channels s) ≡ model_in job rate scan s
  model-same s is = ap (λ (start : ℤ). delay_model s.polys s.clocks start rate job.knot) (second-same scan.second is)

  sound-modelled : (s : Stand) → IsSecond scan.second → IsSound job rate scan s
      → IsModelled (plan_by job rate channels scans) (scan_plan job rate channels scan) (station_plan rate channels s.station)
  sound-modelled s is sound = record {
    model = ap (λ m. has_model m (samples_of job rate scan)) (model-same s.station is) ∙ sound.model;
    clock = ap (λ m. has_clock m (samples_of job rate scan)) (model-same s.station is) ∙ sound.clock;
  }

  pub modelled-there : IsSecond scan.second
      → All (λ s. has_model (model_in job rate scan s.station) (samples_of job rate scan) ≡ true) (stands_in job scan)
      → All (λ s. has_clock (model_in job rate scan s.station) (samples_of job rate scan) ≡ true) (stands_in job scan)
      → (i : ℕ) (s : StationPlan) → slice_get (map (station_plan rate channels) job.stations) i ≡ Some s → is_some (stay_of (scan_plan job rate channels scan) i) ≡ true
      → IsModelled (plan_by job rate channels scans) (scan_plan job rate channels scan) s
  modelled-there is models clocks i s at has =
      let sound : All (IsSound job rate scan) (stands_in job scan) = λ k d less. record { stands = stands-there job scan k d less; model = models k d less; clock = clocks k d less } in
      let one : (t : Stand) × IsSound job rate scan t × ((t.number == i) ≡ true) = found-of (λ (stay : StayPlan). stay.station == i) (stay_plan rate channels) (IsSound job rate scan) (stands_in job scan) sound has in
      let number : one.0.number ≡ i = eqb-true one.0.number i one.2 in
      let there : slice_get job.stations i ≡ Some one.0.station = ap (slice_get job.stations) (sym number) ∙ one.1.stands.there in
      let both : Some (station_plan rate channels one.0.station) ≡ Some s = sym (slice_get-map (station_plan rate channels) job.stations i ∙ ap (option_map (station_plan rate channels)) there) ∙ at in
      subst (IsModelled (plan_by job rate channels scans) (scan_plan job rate channels scan)) (same_Some _ _ both) (sound-modelled one.0 is one.1)
