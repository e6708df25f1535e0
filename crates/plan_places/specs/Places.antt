-- The places of a job: where an epoch may begin, and their order.
use Rattle.std.specs.Prelude.{◌≡◌, ◌<◌, ◌≤◌, slice_get, Some}
use Rattle.piece_plan.specs.declared.job.ScanSize.{ScanSize}
use Rattle.piece_plan.specs.Epochs.{JobSizes, integration_at}
use Rattle.piece_plan.specs.Order.{Place}
use Rattle.plan_places.specs.declared.place.Place.{Place as Spot}

-- a place as the epochs of a job say it
abbrev pub place_at : Spot → Place
place_at p = record { scan = p.scan; m = p.m; from = p.from }

-- a place of a job: a sample of an integration that the job has of a scan
pub record IsPlace (job : JobSizes) (p : Place) : Type 0 where
  pub size : ScanSize
  pub scan : slice_get job.scans p.scan ≡ Some size
  pub first : size.first ≤ p.m
  pub from : (integration_at job size p.m).from ≤ p.from
  pub inside : p.from < (integration_at job size p.m).to

-- a place comes before another, or is it: scans, integrations and samples in their order
pub record IsUpTo (p q : Place) : Type 0 where
  pub scan : p.scan ≤ q.scan
  pub m : p.scan ≡ q.scan → p.m ≤ q.m
  pub from : p.scan ≡ q.scan → p.m ≡ q.m → p.from ≤ q.from

-- a place comes before another
pub record IsBefore (p q : Place) : Type 0 where
  pub scan : p.scan ≤ q.scan
  pub m : p.scan ≡ q.scan → p.m ≤ q.m
  pub from : p.scan ≡ q.scan → p.m ≡ q.m → p.from < q.from
