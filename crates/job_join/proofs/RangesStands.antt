-- The stations of a job in a scan.
use Rattle.std.specs.List.{enumerate_from}
use Rattle.std.proofs.Common.{◌≡◌, ◌∙◌, sym, ap, ℕ, ◌<◌, ◌≤◌, length, All, IfSome, Option, None, Some, option_map, slice_get, bytes_eq, subst, arith, refl}
use Rattle.std.proofs.lemmas.List.Elements.{All-weaker}
use Rattle.std.proofs.lemmas.List.FromFn.{length-enumerate_from}
use Rattle.std.proofs.lemmas.Option.{same_Some}
use Rattle.scan_list.specs.declared.scan.Pass.{Pass}
use Rattle.scan_list.specs.declared.scan.Scan.{Scan}
use Rattle.job_text.specs.Job.{JobFields, StationFields}
use Rattle.job_join.specs.Standing.{Stand, stand_in, stands_in, pass_with}
use Rattle.job_join.proofs.RangesLists.{All-filter_map, AllPairs-filter_map, IfSome-from, enumerate-there, enumerate-rising, length-filter_map, find-All}
use Rattle.job_join.proofs.RangesBaselines.{AreRising}

-- the station of a number, and its part of the scan
pub record IsStand (job : JobFields) (scan : Scan) (s : Stand) : Type 0 where
  pub there : slice_get job.stations s.number ≡ Some s.station
  pub pass : pass_with scan s.station.key ≡ Some s.pass

stand_in-numbered : (scan : Scan) (e : ℕ × StationFields) (s : Stand) → stand_in scan e ≡ Some s → s.number ≡ e.0
stand_in-numbered scan e s is = by (pass_with scan e.1.key) is
  where
    by : (o : Option Pass) → option_map (λ pass. record { number = e.0; station = e.1; pass = pass }) o ≡ Some s → s.number ≡ e.0
    by None found = absurd cc
    by (Some pass) found =
        let same : ◌≡◌ {A = Stand} (record { number = e.0; station = e.1; pass = pass }) s = same_Some _ _ found in
        sym (ap (λ (t : Stand). t.number) same)

stand_in-there : (job : JobFields) (scan : Scan) (e : ℕ × StationFields) (s : Stand) → slice_get job.stations e.0 ≡ Some e.1 → stand_in scan e ≡ Some s → IsStand job scan s
stand_in-there job scan e s there is = by (pass_with scan e.1.key) refl is
  where
    by : (o : Option Pass) → pass_with scan e.1.key ≡ o → option_map (λ pass. record { number = e.0; station = e.1; pass = pass }) o ≡ Some s → IsStand job scan s
    by None has found = absurd cc
    by (Some pass) has found =
        let same : s ≡ record { number = e.0; station = e.1; pass = pass } = sym (same_Some _ _ found) in
        record {
          there = ap (λ (t : Stand). slice_get job.stations t.number) same ∙ there ∙ ap (λ (t : Stand). Some t.station) (sym same);
          pass = ap (λ (t : Stand). pass_with scan t.station.key) same ∙ has ∙ ap (λ (t : Stand). Some t.pass) (sym same);
        }

-- each is one of the job's in the scan
pub stands-there : (job : JobFields) (scan : Scan) → All (IsStand job scan) (stands_in job scan)
unfolding stands_in
stands-there job scan =
    All-filter_map (IsStand job scan) (stand_in scan) (enumerate_from 0 job.stations)
    (All-weaker _ _ (λ e there. IfSome-from (stand_in scan e) (IsStand job scan) (λ s is. stand_in-there job scan e s there is)) _ (enumerate-there job.stations))

pub stands-rising : (job : JobFields) (scan : Scan) → AreRising (stands_in job scan)
unfolding stands_in
stands-rising job scan =
    AllPairs-filter_map (λ (e f : ℕ × StationFields). e.0 < f.0) (λ (s t : Stand). s.number < t.number) (stand_in scan) each
    (enumerate_from 0 job.stations) (enumerate-rising 0 job.stations)
  where
    each : (e f : ℕ × StationFields) (s t : Stand) → stand_in scan e ≡ Some s → stand_in scan f ≡ Some t → e.0 < f.0 → s.number < t.number
    each e f s t one other less = omega (arith, stand_in-numbered scan e s one, stand_in-numbered scan f t other)

pub stands-few : (job : JobFields) (scan : Scan) → length (stands_in job scan) ≤ length job.stations
unfolding stands_in
stands-few job scan = omega (arith, length-filter_map (stand_in scan) (enumerate_from 0 job.stations), length-enumerate_from 0 job.stations)

-- what holds of each part of a scan holds of its stations' parts
pub stands-All : (P : Pass → Type 0) (job : JobFields) (scan : Scan) → All P scan.passes → All (λ s. P s.pass) (stands_in job scan)
stands-All P job scan all = All-weaker (IsStand job scan) (λ s. P s.pass) each (stands_in job scan) (stands-there job scan)
  where
    each : (s : Stand) → IsStand job scan s → P s.pass
    each s stands = subst (λ o. IfSome o P) stands.pass (find-All (λ (p : Pass). bytes_eq p.key s.station.key) P scan.passes all)
