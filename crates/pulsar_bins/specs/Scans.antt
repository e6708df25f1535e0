-- The phase in the scans of a plan.
use Rattle.std.specs.Prelude.{ℕ, pos, Bool, not, Option, List}
use Rattle.std.specs.List.{position}
use Rattle.corr_model.specs.Delay.{DelayModel, has_model}
use Rattle.delay_poly.specs.declared.entry.PolyEntry.{PolyEntry}
use Rattle.job_plan.specs.declared.plan.ScanPlan.{ScanPlan}
use Rattle.job_plan.specs.declared.plan.Plan.{Plan}
use Rattle.pulsar_bins.specs.Bin.{phase_model, bin_at}
use Rattle.pulsar_bins.specs.Bins.{BinsFields}

-- what the phase in a scan depends on
abbrev pub phase_in_scan : Plan → List PolyEntry → ScanPlan → DelayModel
phase_in_scan plan phases scan = phase_model phases (pos scan.second) plan.rate plan.knot

-- the bin of sample n of a scan
abbrev pub scan_bin : Plan → BinsFields → ScanPlan → ℕ → ℕ
scan_bin plan bins scan n = bin_at bins.count (phase_in_scan plan bins.phases scan) n

-- each sample of a scan has a phase: an entry is in force there, and the knot behind it is at most knot 2^24
abbrev pub has_phase : Plan → BinsFields → ScanPlan → Bool
has_phase plan bins scan = has_model (phase_in_scan plan bins.phases scan) scan.samples

-- the first scan that has a sample without a phase, by its number in the plan
unfoldable pub no_phase : BinsFields → Plan → Option ℕ
no_phase bins plan = position (λ scan. not (has_phase plan bins scan)) plan.scans
