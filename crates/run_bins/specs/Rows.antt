-- The records of an integration from its cells, which stand by product, then by baseline, then by bin, then by rising lag.
use Rattle.std.specs.Prelude.{ℕ, ◌*◌, List, length, take, drop, flat_map}
use Rattle.std.specs.List.{range_with_len}
use Rattle.corr_model.specs.declared.cell.Cell.{Cell}
use Rattle.corr_model.specs.declared.records.RecordAt.{RecordAt}
use Rattle.job_plan.specs.declared.plan.ScanPlan.{ScanPlan}
use Rattle.bin_records.specs.Texts.{bin_record_text}
use Rattle.run_bins.specs.Texts.{BinPlan, place_at}

-- the cells of a row, where rows of this width stand one after another
abbrev pub row_of : ℕ → List Cell → ℕ → List Cell
row_of width cells k = take width (drop (k * width) cells)

-- the text of the rows of cells, of which each has a text by its number
abbrev pub rows_text : (ℕ → List Cell → List ℕ) → ℕ → List Cell → ℕ → List ℕ
rows_text text width cells n = flat_map (λ k. text k (row_of width cells k)) (range_with_len 0 n)

-- the records of the bins of a product at a baseline, of its baselines, and of the products
abbrev pub bins_text : RecordAt → ℕ → ℕ → List Cell → List ℕ
bins_text at bins lags cells = rows_text (bin_record_text at) lags cells bins

abbrev pub baselines_text : ℕ → ℕ → ℕ → ℕ → ℕ → ℕ → List Cell → List ℕ
baselines_text number m baselines bins lags product cells =
    rows_text (λ b. bins_text (place_at number m product b) bins lags) (bins * lags) cells baselines

abbrev pub products_text : ℕ → ℕ → ℕ → ℕ → ℕ → ℕ → List Cell → List ℕ
products_text number m products baselines bins lags cells =
    rows_text (baselines_text number m baselines bins lags) (baselines * (bins * lags)) cells products

-- the records of an integration of a scan with these sums
abbrev pub sums_text : BinPlan → ℕ → ScanPlan → ℕ → List Cell → List ℕ
sums_text x number scan m sums =
    products_text number m (length x.plan.products) (length scan.baselines) x.bins.count x.plan.lags sums
