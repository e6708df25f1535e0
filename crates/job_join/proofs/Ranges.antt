-- The plan of a job and a schedule that go together is in its ranges.
use Rattle.std.proofs.Common.{◌≡◌, ℕ, ◌%◌, ◌^◌, ◌<◌, List, length, map, All, None, get_or}
use Rattle.std.proofs.lemmas.List.{length-map}
use Rattle.std.proofs.lemmas.List.Elements.{All-map, All-weaker}
use Rattle.vdif_frame.specs.Shape.{samples_per_frame}
use Rattle.scan_list.specs.declared.scan.Scan.{Scan}
use Rattle.scan_list.specs.Sound.{IsScan, IsPass, AreScans}
use Rattle.job_plan.specs.Ranges.{IsPlan, IsStation, IsProductPlan}
use Rattle.job_text.specs.Job.{JobFields}
use Rattle.job_text.specs.Ranges.{IsJob, shape_of}
use Rattle.job_join.specs.Standing.{taken, rate_of, unknown_station}
use Rattle.job_join.specs.Channels.{channels_of}
use Rattle.job_join.specs.Joined.{refusal_of, station_plan, product_plan, plan_by, plan_of}
use Rattle.job_join.proofs.RangesAccepted.{IsAccepted, accepted, IsWithin, within}
use Rattle.job_join.proofs.RangesChannels.{channels_of-named, channels_of-some}
use Rattle.job_join.proofs.RangesModelled.{models-there, clocks-there}
use Rattle.job_join.proofs.RangesRates.{rate_of-All, taken-All}
use Rattle.job_join.proofs.RangesScans.{IsTaken, scans-there}
use Rattle.job_join.proofs.RangesStations.{station-there, frames-whole, product-there}

-- the rate of a job all of whose stations stand somewhere is not 0
pub rate_of-known : (job : JobFields) (scans : List Scan) → IsJob job → AreScans scans → unknown_station job scans ≡ None → 0 < rate_of job scans
rate_of-known job scans is are known =
    rate_of-All (λ rate. 0 < rate) job scans known is.some_station
    (All-weaker IsScan (λ scan. All (λ p. 0 < p.rate) scan.passes)
    (λ scan its. All-weaker IsPass (λ p. 0 < p.rate) (λ p pass. pass.rate) scan.passes its.passes) scans are.each)

-- nor that of a job that is not refused
pub rate_of-some : (job : JobFields) (epoch : ℕ) (scans : List Scan) → IsJob job → AreScans scans → refusal_of job epoch scans ≡ None → 0 < rate_of job scans
rate_of-some job epoch scans is are none = rate_of-known job scans is are (accepted job epoch scans none).stations

scans-taken : (job : JobFields) (epoch : ℕ) (scans : List Scan) → AreScans scans → refusal_of job epoch scans ≡ None → All (IsTaken job (rate_of job scans)) (taken job scans)
scans-taken job epoch scans are none = λ k d less.
    let its : IsAccepted job epoch scans = accepted job epoch scans none in
    let sizes : IsWithin job (rate_of job scans) (taken job scans) = within job epoch scans its.limits in
    record {
      sound = taken-All IsScan job scans are.each k d less;
      samples = sizes.samples k d less;
      seconds = sizes.seconds k d less;
      cells = sizes.cells k d less;
      models = models-there job scans its.models k d less;
      clocks = clocks-there job scans its.clocks k d less;
    }

module _ (job : JobFields) (rate : ℕ) (channels : List (List ℕ)) (scans : List Scan) where
  stations-there : IsJob job → 0 < rate → All (λ s. rate % samples_per_frame (shape_of 0 s) ≡ 0) job.stations
      → All (IsStation (plan_by job rate channels scans)) (map (station_plan rate channels) job.stations)
  stations-there is some whole =
      All-map (IsStation (plan_by job rate channels scans)) (station_plan rate channels) job.stations
      (λ k d less. station-there job rate channels scans (get_or job.stations k d) (is.stations k d less) some (whole k d less))

  products-there : 0 < length channels → All (IsProductPlan (plan_by job rate channels scans)) (map (product_plan channels) job.products)
  products-there some =
      All-map (IsProductPlan (plan_by job rate channels scans)) (product_plan channels) job.products
      (λ k d less. product-there job rate channels scans (get_or job.products k d) some)

pub IsPlan-joined : (job : JobFields) (epoch : ℕ) (scans : List Scan) → IsJob job → AreScans scans → rate_of job scans < 2 ^ 32 → refusal_of job epoch scans ≡ None → IsPlan (plan_of job scans)
unfolding plan_of
IsPlan-joined job epoch scans is are bounded none =
    let its : IsAccepted job epoch scans = accepted job epoch scans none in
    let sizes : IsWithin job (rate_of job scans) (taken job scans) = within job epoch scans its.limits in
    let some : 0 < rate_of job scans = rate_of-some job epoch scans is are none in
    let stations : length (map (station_plan (rate_of job scans) (channels_of job)) job.stations) ≡ length job.stations = length-map job.stations (station_plan (rate_of job scans) (channels_of job)) in
    let products : length (map (product_plan (channels_of job)) job.products) ≡ length job.products = length-map job.products (product_plan (channels_of job)) in
    record {
      some_lags = is.some_lags;
      lags = is.lags;
      even = is.even;
      some_integration = is.some_integration;
      integration = is.integration;
      some_epoch = is.some_epoch;
      epoch = is.epoch;
      some_rate = some;
      rate = bounded;
      some_knot = is.some_knot;
      knot = is.knot;
      some_station = rw stations is.some_station;
      few_stations = rw stations sizes.stations;
      stations = stations-there job (rate_of job scans) (channels_of job) (taken job scans) is some (frames-whole job scans its.frames);
      few_channels = sizes.channels;
      channels = channels_of-named job is.products;
      some_product = rw products is.some_product;
      few_products = rw products sizes.products;
      products = products-there job (rate_of job scans) (channels_of job) (taken job scans) (channels_of-some job is.some_product);
      scans = scans-there job (rate_of job scans) (channels_of job) (taken job scans) some sizes.stations (scans-taken job epoch scans are none);
    }
