-- A plan in its ranges has a head in its ranges.
use Rattle.std.proofs.Common.{◌≡◌, ℕ, ◌<◌, ◌^◌, ◌==◌, pos, true, [], length, map, All, get_or, arith}
use Rattle.std.proofs.lemmas.Bool.{eqb-true}
use Rattle.std.proofs.lemmas.Int.{ints}
use Rattle.std.proofs.lemmas.List.{length-map}
use Rattle.std.proofs.lemmas.List.Elements.{All-map}
use Rattle.num_time.specs.Times.{IsSecond}
use Rattle.corr_model.specs.Records.{IsHead, IsHeadScan, IsBaseline, IsBefore, IsName}
use Rattle.job_plan.specs.declared.plan.StationPlan.{StationPlan}
use Rattle.job_plan.specs.declared.plan.StayPlan.{StayPlan}
use Rattle.job_plan.specs.declared.plan.ProductPlan.{ProductPlan}
use Rattle.job_plan.specs.declared.plan.BaselinePlan.{BaselinePlan}
use Rattle.job_plan.specs.declared.plan.ScanPlan.{ScanPlan}
use Rattle.job_plan.specs.declared.plan.Plan.{Plan}
use Rattle.job_plan.specs.Ranges.{IsPlan, IsProductPlan, IsScanPlan, IsStay, IsOfScan}
use Rattle.job_plan.specs.Output.{product_names, head_scan, head_of}
use Rattle.job_plan.proofs.PairLemmas.{AllPairs-map, found}

second-short : (second : ℕ) → IsSecond (pos second) → second < 2 ^ 32
second-short second is = omega (arith, ints)

-- the stations of a baseline are the plan's
pub baseline-there : (plan : Plan) (scan : ScanPlan) (b : BaselinePlan) → All (IsStay plan scan) scan.stays → IsOfScan scan b → IsBaseline (length plan.stations) (b.a, b.b)
baseline-there plan scan b stays is =
    let stay : (s : StayPlan) × IsStay plan scan s × ((s.station == b.b) ≡ true) = found (λ (s : StayPlan). s.station == b.b) (IsStay plan scan) scan.stays stays is.second in
    (is.order, omega (arith, stay.1.station, eqb-true stay.0.station b.b stay.2))

head_scan-there : (plan : Plan) (scan : ScanPlan) → IsScanPlan plan scan → IsHeadScan (length plan.stations) (head_scan scan)
head_scan-there plan scan is =
    let pair : BaselinePlan → ℕ × ℕ = λ b. (b.a, b.b) in
    record {
      name = is.name;
      second = second-short scan.second is.second;
      samples = is.samples;
      some_baseline = rw (length-map scan.baselines pair) is.some_baseline;
      baselines = rw (length-map scan.baselines pair) is.few_baselines;
      each = All-map (IsBaseline (length plan.stations)) pair scan.baselines (λ k d less. baseline-there plan scan (get_or scan.baselines k d) is.stays (is.baselines k d less));
      rising = AllPairs-map IsBefore pair scan.baselines is.rising;
    }

product_names-there : (plan : Plan) (p : ProductPlan) → All IsName plan.channels → IsProductPlan plan p
    → IsName (product_names plan.channels p).0 × IsName (product_names plan.channels p).1
product_names-there plan p named is = (named p.x [] is.0, named p.y [] is.1)

pub IsHead-head_of : (plan : Plan) → IsPlan plan → length plan.scans < 2 ^ 32 → IsHead (head_of plan)
IsHead-head_of plan is few =
    let stations : length (map (λ (s : StationPlan). s.key) plan.stations) ≡ length plan.stations = length-map plan.stations (λ (s : StationPlan). s.key) in
    let products : length (map (product_names plan.channels) plan.products) ≡ length plan.products = length-map plan.products (product_names plan.channels) in
    record {
      some_lags = is.some_lags;
      lags = is.lags;
      even = is.even;
      some_integration = is.some_integration;
      integration = is.integration;
      some_rate = is.some_rate;
      rate = is.rate;
      some_station = rw stations is.some_station;
      stations = rw stations is.few_stations;
      keys = All-map IsName (λ (s : StationPlan). s.key) plan.stations (λ k d less. (is.stations k d less).key);
      some_product = rw products is.some_product;
      products = rw products is.few_products;
      channels = All-map (λ p. IsName p.0 × IsName p.1) (product_names plan.channels) plan.products (λ k d less. product_names-there plan (get_or plan.products k d) is.channels (is.products k d less));
      few_scans = rw (length-map plan.scans head_scan) few;
      scans = rw stations (All-map (IsHeadScan (length plan.stations)) head_scan plan.scans (λ k d less. head_scan-there plan (get_or plan.scans k d) (is.scans k d less)));
    }
