-- The stations' parts of a scan in a plan.
use Rattle.std.specs.Option.{option_map_or}
use Rattle.std.proofs.Common.{◌≡◌, refl, ℕ, ◌*◌, ◌/◌, ◌<◌, ◌≤◌, ◌==◌, ℤ, pos, ◌≤ℤ◌, unsigned_abs, true, List, map, All, AllPairs, IfSome, Option, None, Some, is_some, bytes_eq, get_or, arith}
use Rattle.std.proofs.lemmas.Bool.{eq-eqb}
use Rattle.std.proofs.lemmas.Int.{ints}
use Rattle.std.proofs.lemmas.List.{length-map}
use Rattle.std.proofs.lemmas.List.Elements.{All-map}
use Rattle.std.proofs.lemmas.Nat.{mul-le, le-div}
use Rattle.std.proofs.lemmas.Option.{slice_get_within}
use Rattle.std.proofs.Math.Nat.{div-mul-le_self}
use Rattle.scan_list.specs.declared.scan.Chan.{Chan}
use Rattle.scan_list.specs.declared.scan.Pass.{Pass}
use Rattle.scan_list.specs.declared.scan.Scan.{Scan}
use Rattle.scan_list.specs.Sound.{IsChan, IsPass}
use Rattle.job_plan.specs.declared.plan.StayPlan.{StayPlan}
use Rattle.job_plan.specs.Values.{stay_of}
use Rattle.job_plan.specs.Ranges.{IsBand, IsStay, IsOfScan}
use Rattle.job_text.specs.Job.{JobFields}
use Rattle.job_join.specs.Standing.{Stand, stands_in}
use Rattle.job_join.specs.Channels.{chan_with}
use Rattle.job_join.specs.Spans.{samples_in, first_sample, end_sample, samples_of}
use Rattle.job_join.specs.Limits.{baselines_in}
use Rattle.job_join.specs.Joined.{band_of, station_plan, stay_plan, scan_plan, plan_by}
use Rattle.job_join.proofs.RangesLists.{find-All, there-of, fold-max, AllPairs-map}
use Rattle.job_join.proofs.RangesBaselines.{All-baselines_in}
use Rattle.job_join.proofs.RangesStands.{IsStand, stands-there, stands-rising, stands-All}

quotients-rise : (a b k : ℕ) → 0 < k → a ≤ b → a / k ≤ b / k
quotients-rise a b k some less = le-div (a / k) b k some (omega (arith, div-mul-le_self a k))

samples_in-rise : (rate : ℕ) (from to : ℤ) → pos 0 ≤ℤ from → from ≤ℤ to → samples_in rate from ≤ samples_in rate to
samples_in-rise rate from to start order =
    quotients-rise (unsigned_abs from * rate) (unsigned_abs to * rate) 1000000 (omega arith)
    (mul-le (unsigned_abs from) rate (unsigned_abs to) rate (omega (arith, ints)) (omega arith))

-- a part does not end before it begins
pub part-order : (rate : ℕ) (pass : Pass) → IsPass pass → first_sample rate pass ≤ end_sample rate pass
unfolding first_sample end_sample
part-order rate pass is = by pass.samples
  where
    by : (o : Option ℕ) → option_map_or (λ (n : ℕ). 0) o (samples_in rate pass.from_us) ≤ option_map_or (λ (n : ℕ). n) o (samples_in rate pass.to_us)
    by None = samples_in-rise rate pass.from_us pass.to_us is.start is.order
    by (Some n) = omega arith

-- a part does not end behind its scan
pub parts-end : (job : JobFields) (rate : ℕ) (scan : Scan) → All (λ s. end_sample rate s.pass ≤ samples_of job rate scan) (stands_in job scan)
unfolding samples_of
parts-end job rate scan = fold-max (λ (s : Stand). end_sample rate s.pass) 0 (stands_in job scan)

band-there : (pass : Pass) (name : List ℕ) → IsPass pass → IsBand (band_of (chan_with pass name))
band-there pass name is = by (chan_with pass name) (find-All (λ (c : Chan). bytes_eq c.id name) IsChan pass.chans is.chans)
  where
    by : (o : Option Chan) → IfSome o IsChan → IsBand (band_of o)
    by None its = tt
    by (Some c) its = its.hertz

module _ (job : JobFields) (rate : ℕ) (channels : List (List ℕ)) (scans : List Scan) (scan : Scan) where
  stay-there : (s : Stand) → IsStand job scan s → IsPass s.pass → end_sample rate s.pass ≤ samples_of job rate scan
      → IsStay (plan_by job rate channels scans) (scan_plan job rate channels scan) (stay_plan rate channels s)
  stay-there s stands is ends = record {
    station = omega (arith, slice_get_within job.stations s.number s.station stands.there, length-map job.stations (station_plan rate channels));
    from = part-order rate s.pass is;
    to = ends;
    bands = length-map channels (λ name. band_of (chan_with s.pass name));
    hertz = All-map IsBand (λ name. band_of (chan_with s.pass name)) channels (λ k d less. band-there s.pass (get_or channels k d) is);
  }

  pub stays-there : All IsPass scan.passes
      → All (IsStay (plan_by job rate channels scans) (scan_plan job rate channels scan)) (map (stay_plan rate channels) (stands_in job scan))
  stays-there all =
      All-map (IsStay (plan_by job rate channels scans) (scan_plan job rate channels scan)) (stay_plan rate channels) (stands_in job scan)
      (λ k d less. stay-there (get_or (stands_in job scan) k d) (stands-there job scan k d less) (stands-All IsPass job scan all k d less) (parts-end job rate scan k d less))

pub stays-in_order : (job : JobFields) (rate : ℕ) (channels : List (List ℕ)) (scan : Scan)
    → AllPairs (λ (s t : StayPlan). s.station < t.station) (map (stay_plan rate channels) (stands_in job scan))
stays-in_order job rate channels scan = AllPairs-map (λ (s t : StayPlan). s.station < t.station) (stay_plan rate channels) (stands_in job scan) (stands-rising job scan)

-- each station that stands has a part
parts-there : (job : JobFields) (rate : ℕ) (channels : List (List ℕ)) (scan : Scan)
    → All (λ s. is_some (stay_of (scan_plan job rate channels scan) s.number) ≡ true) (stands_in job scan)
parts-there job rate channels scan =
    there-of (λ (s : Stand) (stay : StayPlan). stay.station == s.number) (stay_plan rate channels) (λ s. eq-eqb s.number s.number refl) (stands_in job scan)

pub baselines-there : (job : JobFields) (rate : ℕ) (channels : List (List ℕ)) (scan : Scan)
    → All (IsOfScan (scan_plan job rate channels scan)) (baselines_in job scan)
baselines-there job rate channels scan =
    All-baselines_in job scan (IsOfScan (scan_plan job rate channels scan))
    (λ k d less i b within order. record { order = order; first = parts-there job rate channels scan k d less; second = parts-there job rate channels scan i b within })
