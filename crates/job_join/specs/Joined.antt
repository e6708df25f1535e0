-- The plan of a job and a schedule, or why they do not go together.
use Rattle.read_steps.specs.Steps as steps
use Rattle.std.specs.Prelude.{ℕ, ◌/◌, nat_lt, unsigned_abs, List, [], ◌∷◌, ◌++◌, length, map, filter, bytes_eq, Option, None, Some, option_map, unwrap_or, Result, Ok, Err}
use Rattle.std.specs.List.{position}
use Rattle.vdif_frame.specs.Shape.{samples_per_frame}
use Rattle.named_list.specs.Named.{named}
use Rattle.scan_list.specs.declared.scan.Chan.{Chan}
use Rattle.scan_list.specs.declared.scan.Scan.{Scan}
use Rattle.job_plan.specs.declared.plan.Recorded.{Recorded}
use Rattle.job_plan.specs.declared.plan.Band.{Band}
use Rattle.job_plan.specs.declared.plan.StationPlan.{StationPlan}
use Rattle.job_plan.specs.declared.plan.StayPlan.{StayPlan}
use Rattle.job_plan.specs.declared.plan.ProductPlan.{ProductPlan}
use Rattle.job_plan.specs.declared.plan.ScanPlan.{ScanPlan}
use Rattle.job_plan.specs.declared.plan.Plan.{Plan}
use Rattle.job_text.specs.declared.places.ChanPlace.{ChanPlace}
use Rattle.job_text.specs.Job.{JobFields, StationFields}
use Rattle.job_join.specs.declared.fault.Quantity.{Quantity}
use Rattle.job_join.specs.declared.fault.JoinFault.{JoinFault}
use Rattle.job_join.specs.declared.fault.JoinFault.TheVariants.{UnknownScan, UnknownStation, RateDiffers, ChannelDiffers, ProductDiffers, FrameRate, NoModel, NoClock, Limit, Memory}
use Rattle.job_join.specs.Standing.{Stand, taken, stands_in, rate_of, unknown_scan, unknown_station}
use Rattle.job_join.specs.Channels.{channels_of, chan_with}
use Rattle.job_join.specs.Differing.{rate_differs, channel_differs, product_differs, frame_rate}
use Rattle.job_join.specs.Spans.{first_sample, end_sample, samples_of}
use Rattle.job_text.specs.Ranges.{shape_of}
use Rattle.job_join.specs.Modelled.{no_model, no_clock}
use Rattle.job_join.specs.Limits.{baselines_in, limit}

abbrev pub first_there : List (Option JoinFault) → Option JoinFault
first_there [] = None
first_there (None ∷ more) = first_there more
first_there (Some fault ∷ more) = Some fault

-- the causes that ask for no delay and for no size: the number is that of the `take` line, or of the station in the job
abbrev pub early_causes : JobFields → List Scan → List (Option JoinFault)
early_causes job scans =
    option_map UnknownScan (unknown_scan job scans)
    ∷ option_map UnknownStation (unknown_station job scans)
    ∷ option_map RateDiffers (rate_differs job scans)
    ∷ option_map ChannelDiffers (channel_differs job scans)
    ∷ option_map ProductDiffers (product_differs job scans)
    ∷ option_map FrameRate (frame_rate job scans)
    ∷ []

-- the others: the number is that of the station in the job, or of the scan in the schedule. The quantities are those with
-- epochs of this length.
abbrev pub late_causes : JobFields → ℕ → List Scan → List (Option JoinFault)
late_causes job epoch scans =
    option_map NoModel (no_model job scans)
    ∷ option_map NoClock (no_clock job scans)
    ∷ option_map (λ (l : Quantity × ℕ). Limit l.0 l.1) (limit job epoch scans)
    ∷ []

-- why the two do not go together, by the first of these causes
unfoldable pub refusal_of : JobFields → ℕ → List Scan → Option JoinFault
refusal_of job epoch scans = first_there (early_causes job scans ++ late_causes job epoch scans)

-- where a station records a channel, none where no `chan` line says so
abbrev pub recorded_of : StationFields → List ℕ → Option Recorded
recorded_of s name = option_map (λ (c : ChanPlace). record { thread = c.thread; index = c.index }) (named s.chans name)

abbrev pub station_plan : ℕ → List (List ℕ) → StationFields → StationPlan
station_plan rate channels s = record {
  key = s.key;
  shape = shape_of (rate / samples_per_frame (shape_of 0 s)) s;
  files = s.files;
  chans = map (recorded_of s) channels;
  polys = s.polys;
  clocks = s.clocks;
}

abbrev pub band_of : Option Chan → Option Band
band_of chan = option_map (λ (c : Chan). record { hertz = c.hertz; upper = c.upper }) chan

abbrev pub stay_plan : ℕ → List (List ℕ) → Stand → StayPlan
stay_plan rate channels s = record {
  station = s.number;
  from = first_sample rate s.pass;
  to = end_sample rate s.pass;
  bands = map (λ name. band_of (chan_with s.pass name)) channels;
}

abbrev pub scan_plan : JobFields → ℕ → List (List ℕ) → Scan → ScanPlan
scan_plan job rate channels scan = record {
  name = scan.name;
  second = unsigned_abs scan.second;
  samples = samples_of job rate scan;
  stays = map (stay_plan rate channels) (stands_in job scan);
  baselines = baselines_in job scan;
}

-- the number of a channel
abbrev pub number_of : List (List ℕ) → List ℕ → ℕ
number_of channels name = unwrap_or (position (λ other. bytes_eq other name) channels) 0

abbrev pub product_plan : List (List ℕ) → List ℕ × List ℕ → ProductPlan
product_plan channels p = record { x = number_of channels p.0; y = number_of channels p.1 }

-- the plan: the scans that are taken and have a baseline
abbrev pub plan_by : JobFields → ℕ → List (List ℕ) → List Scan → Plan
plan_by job rate channels scans = record {
  lags = job.lags;
  integration = job.integration;
  epoch = job.epoch;
  rate = rate;
  knot = job.knot;
  stations = map (station_plan rate channels) job.stations;
  channels = channels;
  products = map (product_plan channels) job.products;
  scans = filter (λ (scan : ScanPlan). nat_lt 0 (length scan.baselines)) (map (scan_plan job rate channels) scans);
}

unfoldable pub plan_of : JobFields → List Scan → Plan
plan_of job scans = plan_by job (rate_of job scans) (channels_of job) (taken job scans)

-- the refusal, with epochs of this length, or else the plan, which has the length of the job's own line
abbrev pub joined : JobFields → ℕ → List Scan → Result Plan JoinFault
joined job epoch scans = by (refusal_of job epoch scans)
  where
    by : Option JoinFault → Result Plan JoinFault
    by (Some fault) = Err fault
    by None = Ok (plan_of job scans)

-- what a call answers is the wanted answer, or want of memory
abbrev pub Gives : Result Plan JoinFault → Result Plan JoinFault → Type 0
Gives = steps.Gives Memory (λ x. x)
