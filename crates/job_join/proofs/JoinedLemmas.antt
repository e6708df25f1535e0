-- What a job and a schedule that are not refused give the plan.
use Rattle.std.proofs.Common.{◌≡◌, ℕ, ◌/◌, ◌%◌, ◌^◌, ◌<◌, ◌≤◌, true, List, map, filter, All, None, ap, sym, ◌∙◌, subst}
use Rattle.std.proofs.lemmas.List.Elements.{All-weaker}
use Rattle.named_list.specs.Named.{names}
use Rattle.job_plan.specs.declared.plan.StationPlan.{StationPlan}
use Rattle.job_plan.specs.declared.plan.ProductPlan.{ProductPlan}
use Rattle.job_plan.specs.declared.plan.ScanPlan.{ScanPlan}
use Rattle.job_plan.specs.declared.plan.Plan.{Plan}
use Rattle.vdif_frame.specs.Shape.{samples_per_frame}
use Rattle.scan_list.specs.Sound.{IsScan, AreScans}
use Rattle.job_text.specs.Job.{StationFields}
use Rattle.job_text.specs.Ranges.{shape_of}
use Rattle.job_join.specs.declared.joining.Joining.{Joining}
use Rattle.job_join.specs.declared.places.Place.{Place}
use Rattle.job_join.specs.Standing.{taken, rate_of}
use Rattle.job_join.specs.Joined.{refusal_of, station_plan, product_plan, scan_plan, plan_by, plan_of}
use Rattle.job_join.specs.Joining.{scans_of, IsJoining, held_samples}
use Rattle.job_join.specs.Planned.{IsReady, has_baseline}
use Rattle.job_join.proofs.HeldLemmas.{visits-All, samples-All}
use Rattle.job_join.proofs.RangesAccepted.{accepted, IsWithin, within}
use Rattle.job_join.proofs.RangesLists.{All-from_map}
use Rattle.job_join.proofs.RangesRates.{divided-some}
use Rattle.job_join.proofs.RangesStations.{frames-whole}
use Rattle.job_join.proofs.Ranges.{rate_of-some}

module _ (j : Joining) (is : IsJoining j) (are : AreScans (scans_of j)) (epoch : ℕ) (none : refusal_of j.job.now epoch (scans_of j) ≡ None) where
  pub sizes-within : IsWithin j.job.now j.rate (taken j.job.now (scans_of j))
  sizes-within = subst (λ rate. IsWithin j.job.now rate (taken j.job.now (scans_of j))) (sym is.rate) (within j.job.now epoch (scans_of j) (accepted j.job.now epoch (scans_of j) none).limits)

  -- a plan can hold each scan
  pub ready-All : All (IsReady j.job.now j.rate) j.places.items
  unfolding taken
  ready-All =
      let small : All (λ (p : Place). p.taken ≡ true → held_samples j.rate p ≤ 2 ^ 40) j.places.items =
      samples-All j.job.now j.places.items is.visits j.rate (2 ^ 40) sizes-within.samples in
      λ k d less. record {
        visit = visits-All j.job.now j.places.items is.visits k d less;
        sound = All-from_map IsScan (λ (p : Place). p.scan.now) j.places.items are.each k d less;
        stations = sizes-within.stations;
        samples = small k d less;
      }

  -- some frames of each station come in a second
  pub frames-All : All (λ (s : StationFields). 0 < j.rate / samples_per_frame (shape_of 0 s)) j.job.now.stations
  frames-All =
      let some : 0 < rate_of j.job.now (scans_of j) = rate_of-some j.job.now epoch (scans_of j) is.job are none in
      subst (λ (rate : ℕ). All (λ (s : StationFields). 0 < rate / samples_per_frame (shape_of 0 s)) j.job.now.stations) (sym is.rate)
      (All-weaker (λ (s : StationFields). rate_of j.job.now (scans_of j) % samples_per_frame (shape_of 0 s) ≡ 0) (λ (s : StationFields). 0 < rate_of j.job.now (scans_of j) / samples_per_frame (shape_of 0 s))
      (λ s whole. divided-some (rate_of j.job.now (scans_of j)) (samples_per_frame (shape_of 0 s)) some whole) j.job.now.stations
      (frames-whole j.job.now (scans_of j) (accepted j.job.now epoch (scans_of j) none).frames))

-- the plan, from its parts
pub plan_of-parts : (j : Joining) → IsJoining j → {lags integration epoch rate knot : ℕ} {stations : List StationPlan} {channels : List (List ℕ)} {products : List ProductPlan} {scans : List ScanPlan}
    → lags ≡ j.job.now.lags → integration ≡ j.job.now.integration → epoch ≡ j.job.now.epoch → rate ≡ j.rate → knot ≡ j.job.now.knot
    → stations ≡ map (station_plan j.rate (names j.channels)) j.job.now.stations → channels ≡ names j.channels → products ≡ map (product_plan (names j.channels)) j.job.now.products
    → scans ≡ filter has_baseline (map (scan_plan j.job.now j.rate (names j.channels)) (taken j.job.now (scans_of j)))
    → ◌≡◌ {A = Plan} (record { lags = lags; integration = integration; epoch = epoch; rate = rate; knot = knot; stations = stations; channels = channels; products = products; scans = scans })
    (plan_of j.job.now (scans_of j))
unfolding plan_of
plan_of-parts j is a b c r d e f g h =
    each a b c r d e f g h
    ∙ ap (λ (rate : ℕ). plan_by j.job.now rate (names j.channels) (taken j.job.now (scans_of j))) is.rate
    ∙ ap (λ channels. plan_by j.job.now (rate_of j.job.now (scans_of j)) channels (taken j.job.now (scans_of j))) is.channels
  where
    each : {l i s r k l' i' s' r' k' : ℕ} {ss ss' : List StationPlan} {cs cs' : List (List ℕ)} {ps ps' : List ProductPlan} {ns ns' : List ScanPlan}
        → l ≡ l' → i ≡ i' → s ≡ s' → r ≡ r' → k ≡ k' → ss ≡ ss' → cs ≡ cs' → ps ≡ ps' → ns ≡ ns'
        → ◌≡◌ {A = Plan} (record { lags = l; integration = i; epoch = s; rate = r; knot = k; stations = ss; channels = cs; products = ps; scans = ns })
        (record { lags = l'; integration = i'; epoch = s'; rate = r'; knot = k'; stations = ss'; channels = cs'; products = ps'; scans = ns' })
    each a b c r d e f g h = cc
