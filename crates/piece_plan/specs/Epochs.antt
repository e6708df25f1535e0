-- The epochs of a job: each integration of each scan, cut in order.
use Rattle.std.specs.Prelude.{◌≡◌, ℕ, ◌-◌, ◌*◌, ◌%◌, ◌^◌, ◌<◌, ◌≤◌, List, length, map, flat_map, slice_get, Some}
use Rattle.std.specs.List.{All, range_with_len, enumerate_from}
use Rattle.piece_plan.specs.declared.job.ScanSize.{ScanSize}
use Rattle.piece_plan.specs.declared.epoch.EpochPlan.{EpochPlan}
use Rattle.piece_plan.specs.Parts.{Range, part_at, part_count, parts}

-- what a job is cut by: the sizes of its scans in order, the samples of an integration and of an epoch, and the
-- number of lags
pub record JobSizes : Type 0 where
  pub scans : List ScanSize
  pub integration : ℕ
  pub epoch : ℕ
  pub lags : ℕ

abbrev pub job_sizes : List ScanSize → ℕ → ℕ → ℕ → JobSizes
job_sizes scans integration epoch lags = record {
  scans = scans;
  integration = integration;
  epoch = epoch;
  lags = lags;
}

-- the cells of an epoch: one for each product, baseline and lag
abbrev pub cell_count : EpochPlan → ℕ
cell_count e = e.products * e.baselines * e.lags

-- lags are even in number, 2 to 1,024
pub record AreLags (lags : ℕ) : Type 0 where
  pub some : 2 ≤ lags
  pub within : lags ≤ 1024
  pub even : lags % 2 ≡ 0

-- a scan has a product and a baseline, at most 4,194,304 cells, and at most 2^40 samples up to the last that belongs to the job, before
-- which its first integration does not begin
pub record IsScan (integration lags : ℕ) (size : ScanSize) : Type 0 where
  pub first : size.first * integration ≤ size.samples
  pub samples : size.samples ≤ 2 ^ 40
  pub products : 0 < size.products
  pub baselines : 0 < size.baselines
  pub cells : size.products * size.baselines * lags ≤ 4194304

pub record IsJob (job : JobSizes) : Type 0 where
  pub many : length job.scans ≤ 2 ^ 23
  pub scans : All (IsScan job.integration job.lags) job.scans
  pub integration : 1 ≤ job.integration
  pub longest : job.integration ≤ 2 ^ 36
  pub epoch : 1 ≤ job.epoch
  pub short : job.epoch ≤ 4194304
  pub lags : AreLags job.lags

-- a range of samples of integration m of the scan with this number and size
abbrev pub range_of : JobSizes → ℕ → ScanSize → ℕ → Range → EpochPlan
range_of job number size m r = record {
  scan = number;
  m = m;
  from = r.from;
  to = r.to;
  products = size.products;
  baselines = size.baselines;
  lags = job.lags;
}

-- the samples of integration m: a scan is cut every so many samples
abbrev pub integration_at : JobSizes → ScanSize → ℕ → Range
integration_at job size m = part_at 0 size.samples job.integration m

-- how many of them belong to the job: from the scan's first on
abbrev pub integration_count : JobSizes → ScanSize → ℕ
integration_count job size = part_count (size.first * job.integration) size.samples job.integration

-- the epochs of integration m: it is cut in its turn
unfoldable pub integration_epochs : JobSizes → ℕ → ScanSize → ℕ → List EpochPlan
integration_epochs job number size m =
    map (range_of job number size m)
    (parts (integration_at job size m).from (integration_at job size m).to job.epoch)

-- the ranges of epochs
abbrev pub ranges_of : List EpochPlan → List Range
ranges_of epochs = map (λ e. record { from = e.from; to = e.to }) epochs

-- the epochs of a scan, integration after integration
unfoldable pub scan_epochs : JobSizes → ℕ → ScanSize → List EpochPlan
scan_epochs job number size =
    flat_map (integration_epochs job number size) (range_with_len size.first (integration_count job size))

-- the epochs of the job, scan after scan
unfoldable pub epochs_of : JobSizes → List EpochPlan
epochs_of job = flat_map (λ (s : ℕ × ScanSize). scan_epochs job s.0 s.1) (enumerate_from 0 job.scans)

-- An epoch of the job, wherever it begins and however long it is: a range inside one integration of one scan, not
-- empty, of at most 4,194,304 samples.
pub record IsEpoch (job : JobSizes) (e : EpochPlan) : Type 0 where
  pub size : ScanSize
  pub scan : slice_get job.scans e.scan ≡ Some size
  pub products : e.products ≡ size.products
  pub baselines : e.baselines ≡ size.baselines
  pub lags : e.lags ≡ job.lags
  pub begins : size.first ≤ e.m
  pub from : (integration_at job size e.m).from ≤ e.from
  pub some : e.from < e.to
  pub to : e.to ≤ (integration_at job size e.m).to
  pub short : e.to - e.from ≤ 4194304

-- an epoch of some job
pub record IsOfPlan (e : EpochPlan) : Type 0 where
  pub some : e.from < e.to
  pub to : e.to ≤ 2 ^ 40
  pub short : e.to - e.from ≤ 4194304
  pub products : 0 < e.products
  pub baselines : 0 < e.baselines
  pub lags : AreLags e.lags
  pub cells : cell_count e ≤ 4194304
