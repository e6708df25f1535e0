-- The text of the cells of a plan by the bins of a pulse: a head, the records of each scan, integration, product, baseline and bin, an end.
use Rattle.std.specs.Prelude.{ℕ, ◌*◌, ◌++◌, List, length, flat_map}
use Rattle.std.specs.List.{range_with_len, enumerate_from}
use Rattle.corr_model.specs.declared.records.RecordAt.{RecordAt}
use Rattle.corr_model.specs.Cell.{Samples}
use Rattle.corr_model.specs.Files.{Files}
use Rattle.corr_model.specs.Records.{places_of}
use Rattle.job_plan.specs.declared.plan.ProductPlan.{ProductPlan}
use Rattle.job_plan.specs.declared.plan.BaselinePlan.{BaselinePlan}
use Rattle.job_plan.specs.declared.plan.ScanPlan.{ScanPlan}
use Rattle.job_plan.specs.declared.plan.Plan.{Plan}
use Rattle.job_plan.specs.Output.{head_of, integrations_of}
use Rattle.job_plan.specs.Values.{rotated}
use Rattle.pulsar_bins.specs.Bins.{BinsFields}
use Rattle.bin_records.specs.Texts.{bin_head_text, bin_record_text, bin_end_text}
use Rattle.bin_sums.specs.Binned.{bin_cells}

-- a plan, and the bins of a pulse
pub record BinPlan : Type 0 where
  pub plan : Plan
  pub bins : BinsFields

-- the place of a record
abbrev pub place_at : ℕ → ℕ → ℕ → ℕ → RecordAt
place_at number m product baseline = record { scan = number; m = m; product = product; baseline = baseline }

-- the records of the bins of a product at a baseline, each with its number; of the baselines of a product; and of the products
abbrev pub baseline_text : BinPlan → Samples → ℕ → ScanPlan → ℕ → ℕ × ProductPlan → ℕ × BaselinePlan → List ℕ
baseline_text x z number scan m p b =
    flat_map (λ bin. bin_record_text (place_at number m p.0 b.0) bin (bin_cells x.plan x.bins z scan m p.1 b.1 bin)) (range_with_len 0 x.bins.count)

abbrev pub product_text : BinPlan → Samples → ℕ → ScanPlan → ℕ → ℕ × ProductPlan → List ℕ
product_text x z number scan m p = flat_map (baseline_text x z number scan m p) (enumerate_from 0 scan.baselines)

abbrev pub integration_text : BinPlan → Samples → ℕ → ScanPlan → ℕ → List ℕ
integration_text x z number scan m = flat_map (product_text x z number scan m) (enumerate_from 0 x.plan.products)

-- those of a scan, with its number
abbrev pub scan_text : BinPlan → Files → ℕ × ScanPlan → List ℕ
scan_text x files s =
    flat_map (integration_text x (rotated x.plan files s.1) s.0 s.1) (range_with_len 0 (integrations_of x.plan s.1))

-- the whole text
unfoldable pub bin_output : BinPlan → Files → List ℕ
bin_output x files =
    bin_head_text x.bins.count (head_of x.plan)
    ++ flat_map (scan_text x files) (enumerate_from 0 x.plan.scans)
    ++ bin_end_text (length (places_of (head_of x.plan)) * x.bins.count)
