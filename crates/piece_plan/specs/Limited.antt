-- A job that is limited to some of its integrations, which are counted from 0 through all scans.
use Rattle.std.specs.Prelude.{ℕ, ◌+◌, ◌-◌, ◌*◌, min, nat_lt, if◌then◌else◌, List, [], ◌∷◌, take, sum_by, slice_get}
use Rattle.std.specs.Option.{option_map_or}
use Rattle.piece_plan.specs.declared.job.ScanSize.{ScanSize}
use Rattle.piece_plan.specs.declared.epoch.EpochPlan.{EpochPlan}
use Rattle.piece_plan.specs.Epochs.{JobSizes, IsEpoch, integration_count}
use Rattle.piece_plan.specs.Order.{Place}

-- how many integrations a job has
abbrev pub integrations : JobSizes → ℕ
integrations job = sum_by (integration_count job) job.scans

-- the number of a place's integration
abbrev pub integration_number : JobSizes → Place → ℕ
integration_number job p =
    sum_by (integration_count job) (take p.scan job.scans)
    + option_map_or (λ (size : ScanSize). p.m - size.first) (slice_get job.scans p.scan) 0

-- a scan with those of its integrations alone that stand from the one place up to, not including, the other, counted from its first; it
-- has no sample where there is none
abbrev pub limited_scan : JobSizes → ScanSize → ℕ → ℕ → ScanSize
limited_scan job size from to =
    if nat_lt from (min to (integration_count job size))
    then record size { first = size.first + from; samples = min size.samples ((size.first + to) * job.integration) }
    else record size { first = 0; samples = 0 }

abbrev pub limited_scans : JobSizes → List ScanSize → ℕ → ℕ → List ScanSize
limited_scans job [] from to = []
limited_scans job (size ∷ scans) from to =
    limited_scan job size from to
    ∷ limited_scans job scans (from - integration_count job size) (to - integration_count job size)

-- the job with those integrations alone that have a number from `from` up to, not including, `to`; scans and integrations keep the numbers
-- that they have in it
unfoldable pub limited : JobSizes → ℕ → ℕ → JobSizes
limited job from to = record job { scans = limited_scans job job.scans from to }

-- a part of a job: its epochs are some of the job's
abbrev pub IsPart : JobSizes → JobSizes → Type 0
IsPart job part = (e : EpochPlan) → IsEpoch part e → IsEpoch job e
