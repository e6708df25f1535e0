-- The plans that there are: the ranges of their numbers, and what holds between their parts.
use Rattle.std.specs.Prelude.{◌≡◌, ℕ, ◌*◌, ◌%◌, ◌^◌, ◌≤◌, ◌<◌, pos, true, ⊤, length, AllPairs, Option, Some, None, is_some, slice_get}
use Rattle.std.specs.List.{All}
use Rattle.std.specs.Str.{IsUtf8}
use Rattle.num_time.specs.Times.{IsSecond}
use Rattle.sample_unpack.specs.Level.{IsWidth}
use Rattle.vdif_frame.specs.Shape.{ShapeFields, IsShape, samples_per_frame, chans_of}
use Rattle.corr_model.specs.Delay.{IsClock, has_model, has_clock}
use Rattle.corr_model.specs.Records.{IsName, IsBefore}
use Rattle.job_plan.specs.declared.plan.Recorded.{Recorded}
use Rattle.job_plan.specs.declared.plan.Band.{Band}
use Rattle.job_plan.specs.declared.plan.StationPlan.{StationPlan}
use Rattle.job_plan.specs.declared.plan.StayPlan.{StayPlan}
use Rattle.job_plan.specs.declared.plan.ProductPlan.{ProductPlan}
use Rattle.job_plan.specs.declared.plan.BaselinePlan.{BaselinePlan}
use Rattle.job_plan.specs.declared.plan.ScanPlan.{ScanPlan}
use Rattle.job_plan.specs.declared.plan.Plan.{Plan}
use Rattle.job_plan.specs.Values.{model_of, stay_of}

-- a channel that a frame of this shape can hold
abbrev pub IsRecorded : ShapeFields → Option Recorded → Type 0
IsRecorded shape None = ⊤
IsRecorded shape (Some r) = (r.thread < 1024) × (r.index < chans_of shape)

-- a frequency below 2^40 hertz
abbrev pub IsBand : Option Band → Type 0
IsBand None = ⊤
IsBand (Some band) = band.hertz < 2 ^ 40

-- A station: its samples have one, two or four bits, its files' names are texts, and the job's rate is that of its frames. It
-- has a place for each of the job's channels.
pub record IsStation (plan : Plan) (s : StationPlan) : Type 0 where
  pub key : IsName s.key
  pub shape : IsShape s.shape
  pub bits : IsWidth s.shape.bits
  pub files : All IsUtf8 s.files
  pub rate : plan.rate ≡ s.shape.frames * samples_per_frame s.shape
  pub chans : length s.chans ≡ length plan.channels
  pub recorded : All (IsRecorded s.shape) s.chans
  pub polys : All (λ e. IsSecond e.second) s.polys
  pub clocks : All IsClock s.clocks

-- a product of the job's channels
abbrev pub IsProductPlan : Plan → ProductPlan → Type 0
IsProductPlan plan p = (p.x < length plan.channels) × (p.y < length plan.channels)

-- a station's part of a scan, inside it
pub record IsStay (plan : Plan) (scan : ScanPlan) (stay : StayPlan) : Type 0 where
  pub station : stay.station < length plan.stations
  pub from : stay.from ≤ stay.to
  pub to : stay.to ≤ scan.samples
  pub bands : length stay.bands ≡ length plan.channels
  pub hertz : All IsBand stay.bands

-- two stations that stand in the scan, the first not behind the second
pub record IsOfScan (scan : ScanPlan) (b : BaselinePlan) : Type 0 where
  pub order : b.a ≤ b.b
  pub first : is_some (stay_of scan b.a) ≡ true
  pub second : is_some (stay_of scan b.b) ≡ true

-- a station with a delay model and a clock at each sample of a scan
pub record IsModelled (plan : Plan) (scan : ScanPlan) (s : StationPlan) : Type 0 where
  pub model : has_model (model_of plan scan s) scan.samples ≡ true
  pub clock : has_clock (model_of plan scan s) scan.samples ≡ true

-- A scan of at most 2^40 samples and 2^27 seconds, with one baseline or more and at most 4,194,304 cells. Its stations'
-- parts and its baselines stand in order, and each of its stations is modelled.
pub record IsScanPlan (plan : Plan) (scan : ScanPlan) : Type 0 where
  pub name : IsName scan.name
  pub second : IsSecond (pos scan.second)
  pub samples : scan.samples ≤ 2 ^ 40
  pub seconds : scan.samples ≤ 2 ^ 27 * plan.rate
  pub stays : All (IsStay plan scan) scan.stays
  pub in_order : AllPairs (λ (s t : StayPlan). s.station < t.station) scan.stays
  pub some_baseline : 1 ≤ length scan.baselines
  pub few_baselines : length scan.baselines ≤ 528
  pub baselines : All (IsOfScan scan) scan.baselines
  pub rising : AllPairs (λ (b c : BaselinePlan). IsBefore (b.a, b.b) (c.a, c.b)) scan.baselines
  pub cells : length scan.baselines * length plan.products * plan.lags ≤ 4194304
  pub modelled : (i : ℕ) (s : StationPlan) → slice_get plan.stations i ≡ Some s → is_some (stay_of scan i) ≡ true → IsModelled plan scan s

pub record IsPlan (plan : Plan) : Type 0 where
  pub some_lags : 2 ≤ plan.lags
  pub lags : plan.lags ≤ 1024
  pub even : plan.lags % 2 ≡ 0
  pub some_integration : 1 ≤ plan.integration
  pub integration : plan.integration ≤ 2 ^ 36
  pub some_epoch : 1 ≤ plan.epoch
  pub epoch : plan.epoch ≤ 4194304
  pub some_rate : 1 ≤ plan.rate
  pub rate : plan.rate < 2 ^ 32
  pub some_knot : 1 ≤ plan.knot
  pub knot : plan.knot ≤ 2 ^ 24
  pub some_station : 1 ≤ length plan.stations
  pub few_stations : length plan.stations ≤ 32
  pub stations : All (IsStation plan) plan.stations
  pub few_channels : length plan.channels ≤ 64
  pub channels : All IsName plan.channels
  pub some_product : 1 ≤ length plan.products
  pub few_products : length plan.products ≤ 256
  pub products : All (IsProductPlan plan) plan.products
  pub scans : All (IsScanPlan plan) plan.scans
