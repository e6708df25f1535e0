-- Where the epochs of scans and integrations begin.
use Rattle.std.specs.Prelude.{◌≡◌, ℕ, ◌+◌, ◌*◌, ◌<◌, nat_lt, if◌then◌else◌, drop, slice_get, Option, Some}
use Rattle.piece_plan.specs.declared.job.ScanSize.{ScanSize}
use Rattle.piece_plan.specs.Epochs.{JobSizes, integration_at}
use Rattle.piece_plan.specs.Order.{Place, first_place}

-- where the first epoch of a scan begins, or of the first later one that has samples
unfoldable pub place_of_scan : JobSizes → ℕ → Option Place
place_of_scan job number = first_place job.integration number (drop number job.scans)

-- where the first epoch of integration m of a scan begins, from the scan's first integration on, by the scan's number and size;
-- behind the last one, that of the later scans
unfoldable pub place_of_integration : JobSizes → ℕ → ScanSize → ℕ → Option Place
place_of_integration job number size m =
    if nat_lt (m * job.integration) size.samples
    then Some (record { scan = number; m = m; from = m * job.integration })
    else first_place job.integration (number + 1) (drop (number + 1) job.scans)

-- where the epoch begins that is next behind a sample of integration m: in the integration, else in the next one of the scan,
-- else in the later scans
unfoldable pub place_from : JobSizes → ℕ → ScanSize → ℕ → ℕ → Option Place
place_from job number size m at =
    if nat_lt at (integration_at job size m).to
    then Some (record { scan = number; m = m; from = at })
    else
    (if nat_lt at size.samples
    then Some (record { scan = number; m = m + 1; from = at })
    else first_place job.integration (number + 1) (drop (number + 1) job.scans))

-- integration m of the scan of a number goes from one sample to another
pub record IsIntegration (job : JobSizes) (number : ℕ) (size : ScanSize) (m from to : ℕ) : Type 0 where
  pub scan : slice_get job.scans number ≡ Some size
  pub begins : from ≡ (integration_at job size m).from
  pub ends : to ≡ (integration_at job size m).to
  pub some : from < to
