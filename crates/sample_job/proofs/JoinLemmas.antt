-- The job of a sample joined with its own scan.
use Rattle.std.specs.Prelude.{map, max, codes}
use Rattle.std.proofs.Common.{◌≡◌, ◌≤◌, arith, ℕ, List, [], ◌∷◌, None, Ok, refl}
use Rattle.job_text.specs.Inline.{chan_of, scan_of, scans_of}
use Rattle.job_join.specs.Standing.{taken, stands_in, rate_of, unknown_scan, unknown_station}
use Rattle.job_join.specs.Channels.{channels_of, chans_in}
use Rattle.job_join.specs.Differing.{rate_differs, channel_differs, product_differs, frame_rate}
use Rattle.scan_list.specs.declared.scan.Scan.{Scan}
use Rattle.job_plan.specs.declared.plan.StationPlan.{StationPlan}
use Rattle.job_text.specs.Job.{JobFields, StationFields}
use Rattle.job_join.specs.Spans.{end_sample, samples_of}
use Rattle.job_join.specs.Modelled.{no_model, no_clock}
use Rattle.job_join.specs.Limits.{limit}
use Rattle.job_join.specs.Joined.{refusal_of, station_plan, plan_of, joined}
use Rattle.sample_job.proofs.Said.{begin, poly_1, poly_2, clock_3, station_0, station_1, station_2, station_3, stations, job_with}
use Rattle.sample_job.proofs.ModelLemmas.{has-poly, has-no_poly, has-clock, has-no_clock}

known-scan : (n : ℕ) → unknown_scan (job_with n) (scans_of (job_with n)) ≡ None
unfolding unknown_scan
known-scan n = refl

known-station : (n : ℕ) → unknown_station (job_with n) (scans_of (job_with n)) ≡ None
unfolding unknown_station taken
known-station n = refl

rate : (n : ℕ) → rate_of (job_with n) (scans_of (job_with n)) ≡ 160000
unfolding rate_of taken stands_in
rate n = refl

rates : (n : ℕ) → (rate_differs (job_with n) (scans_of (job_with n)) ≡ None) × (frame_rate (job_with n) (scans_of (job_with n)) ≡ None)
unfolding rate_differs frame_rate rate_of taken stands_in
rates n = (refl, refl)

channels : (n : ℕ) → (channel_differs (job_with n) (scans_of (job_with n)) ≡ None) × (product_differs (job_with n) (scans_of (job_with n)) ≡ None)
unfolding channel_differs product_differs channels_of chans_in stands_in
channels n = (refl, refl)

-- ---- each station has a model and a clock

-- the scan
abbrev scan_at : ℕ → Scan
scan_at n = scan_of 160000 (map chan_of (job_with n).bands) stations (codes "G", record { second = begin; samples = n })

max-same : (n : ℕ) → max (max (max (max 0 n) n) n) n ≡ n
max-same n = omega arith

samples-are : (n : ℕ) → samples_of (job_with n) 160000 (scan_at n) ≡ n
unfolding samples_of end_sample stands_in
samples-are n = max-same n

models : (n : ℕ) → n ≤ 9600000 → no_model (job_with n) (scans_of (job_with n)) ≡ None
unfolding no_model rate_of taken stands_in
models n few =
    let few : n ≤ 16000000 = omega arith in
    rw (samples-are n) (rw (has-no_poly [] n, has-poly poly_1 n refl few, has-poly poly_2 n refl few, has-no_poly (clock_3 ∷ []) n) refl)

clocks : (n : ℕ) → no_clock (job_with n) (scans_of (job_with n)) ≡ None
unfolding no_clock rate_of taken stands_in
clocks n =
    rw (samples-are n) (rw (has-no_clock [] n, has-no_clock (poly_1 ∷ []) n, has-no_clock (poly_2 ∷ []) n, has-clock clock_3 n refl) refl)

-- ---- the plan

refusal-none : (job : JobFields) (epoch : ℕ) (scans : List Scan) → unknown_scan job scans ≡ None → unknown_station job scans ≡ None → rate_differs job scans ≡ None
    → channel_differs job scans ≡ None → product_differs job scans ≡ None → frame_rate job scans ≡ None → no_model job scans ≡ None → no_clock job scans ≡ None
    → limit job epoch scans ≡ None → refusal_of job epoch scans ≡ None
unfolding refusal_of
refusal-none job epoch scans a b c d e f g h i = rw (a, b, c, d, e, f, g, h, i) refl

plan-unless : (job : JobFields) (epoch : ℕ) (scans : List Scan) → refusal_of job epoch scans ≡ None → joined job epoch scans ≡ Ok (plan_of job scans)
plan-unless job epoch scans none = rw none refl

pub joined-is : (n : ℕ) → n ≤ 9600000 → limit (job_with n) 50000 (scans_of (job_with n)) ≡ None
    → joined (job_with n) 50000 (scans_of (job_with n)) ≡ Ok (plan_of (job_with n) (scans_of (job_with n)))
joined-is n few sizes =
    plan-unless (job_with n) 50000 (scans_of (job_with n))
    (refusal-none (job_with n) 50000 (scans_of (job_with n)) (known-scan n) (known-station n) (rates n).0 (channels n).0 (channels n).1 (rates n).1 (models n few) (clocks n) sizes)

-- its stations
abbrev pub station_at : StationFields → StationPlan
station_at = station_plan 160000 (codes "X0" ∷ codes "X1" ∷ [])

abbrev pub plan_stations : List StationPlan
plan_stations = station_at station_0 ∷ station_at station_1 ∷ station_at station_2 ∷ station_at station_3 ∷ []

pub stations-are : (n : ℕ) → (plan_of (job_with n) (scans_of (job_with n))).stations ≡ plan_stations
unfolding plan_of rate_of taken stands_in channels_of
stations-are n = refl
