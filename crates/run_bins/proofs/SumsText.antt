-- The records of the sums of an integration.
use Rattle.std.proofs.Common.{◌≡◌, ℕ, ◌*◌, List, length, sym, ap, ◌∙◌}
use Rattle.std.specs.List.{flat_map, range_with_len, enumerate_from}
use Rattle.std.proofs.lemmas.List.FromFn.{length-range_with_len, length-map-range_with_len}
use Rattle.corr_model.specs.declared.cell.Cell.{Cell}
use Rattle.corr_model.specs.Cell.{Samples}
use Rattle.corr_model.specs.Lags.{lag_of}
use Rattle.job_plan.specs.declared.plan.ProductPlan.{ProductPlan}
use Rattle.job_plan.specs.declared.plan.BaselinePlan.{BaselinePlan}
use Rattle.job_plan.specs.declared.plan.ScanPlan.{ScanPlan}
use Rattle.pulsar_bins.specs.Cells.{bin_cell_of}
use Rattle.bin_records.specs.Texts.{bin_record_text}
use Rattle.bin_sums.specs.Binned.{bin_cells, baseline_bin_cells, product_bin_cells, integration_bin_cells}
use Rattle.vis_writer.proofs.Rows.{length-rows}
use Rattle.run_bins.specs.Texts.{BinPlan, place_at, baseline_text, product_text, integration_text}
use Rattle.run_bins.specs.Rows.{row_of, bins_text, baselines_text, sums_text}
use Rattle.run_bins.proofs.RowLemmas.{rows-of, numbers-numbered, flat_map-same}

module _ (x : BinPlan) (z : Samples) (number : ℕ) (scan : ScanPlan) (m : ℕ) where
  cells-wide : (p : ProductPlan) (b : BaselinePlan) (bin : ℕ) → length (bin_cells x.plan x.bins z scan m p b bin) ≡ x.plan.lags
  cells-wide p b bin =
      length-map-range_with_len (λ i. bin_cell_of x.plan x.bins z scan m p b (lag_of x.plan.lags i) bin) 0 x.plan.lags

  bins-wide : (p : ProductPlan) (b : BaselinePlan) → length (baseline_bin_cells x.plan x.bins z scan m p b) ≡ x.bins.count * x.plan.lags
  bins-wide p b =
      length-rows (bin_cells x.plan x.bins z scan m p b) x.plan.lags (range_with_len 0 x.bins.count) (cells-wide p b)
      ∙ ap (λ n. n * x.plan.lags) (length-range_with_len 0 x.bins.count)

  baselines-wide : (p : ProductPlan) → length (product_bin_cells x.plan x.bins z scan m p) ≡ length scan.baselines * (x.bins.count * x.plan.lags)
  baselines-wide p = length-rows (baseline_bin_cells x.plan x.bins z scan m p) (x.bins.count * x.plan.lags) scan.baselines (bins-wide p)

  bins-text : (p : ℕ × ProductPlan) (b : ℕ × BaselinePlan)
      → bins_text (place_at number m p.0 b.0) x.bins.count x.plan.lags (baseline_bin_cells x.plan x.bins z scan m p.1 b.1)
      ≡ baseline_text x z number scan m p b
  bins-text p b =
      let at = place_at number m p.0 b.0 in
      let cells : ℕ → List Cell = bin_cells x.plan x.bins z scan m p.1 b.1 in
      ap (λ n. flat_map (λ k. bin_record_text at k (row k)) (range_with_len 0 n)) (sym (length-range_with_len 0 x.bins.count))
      ∙ rows-of (bin_record_text at) cells x.plan.lags (range_with_len 0 x.bins.count) (cells-wide p.1 b.1)
      ∙ numbers-numbered (λ (q : ℕ × ℕ). bin_record_text at q.0 (cells q.1)) 0 x.bins.count
    where
      row : ℕ → List Cell
      row k = row_of x.plan.lags (baseline_bin_cells x.plan x.bins z scan m p.1 b.1) k

  baselines-text : (p : ℕ × ProductPlan)
      → baselines_text number m (length scan.baselines) x.bins.count x.plan.lags p.0 (product_bin_cells x.plan x.bins z scan m p.1)
      ≡ product_text x z number scan m p
  baselines-text p =
      rows-of (λ b. bins_text (place_at number m p.0 b) x.bins.count x.plan.lags) (baseline_bin_cells x.plan x.bins z scan m p.1)
      (x.bins.count * x.plan.lags) scan.baselines (bins-wide p.1)
      ∙ flat_map-same (λ (b : ℕ × BaselinePlan). bins_text (place_at number m p.0 b.0) x.bins.count x.plan.lags (baseline_bin_cells x.plan x.bins z scan m p.1 b.1))
      (baseline_text x z number scan m p) (enumerate_from 0 scan.baselines) (bins-text p)

  -- the records of the cells of an integration
  pub sums-text : sums_text x number scan m (integration_bin_cells x.plan x.bins z scan m) ≡ integration_text x z number scan m
  sums-text =
      rows-of (baselines_text number m (length scan.baselines) x.bins.count x.plan.lags) (product_bin_cells x.plan x.bins z scan m)
      (length scan.baselines * (x.bins.count * x.plan.lags)) x.plan.products baselines-wide
      ∙ flat_map-same (λ (p : ℕ × ProductPlan). baselines_text number m (length scan.baselines) x.bins.count x.plan.lags p.0 (product_bin_cells x.plan x.bins z scan m p.1))
      (product_text x z number scan m) (enumerate_from 0 x.plan.products) baselines-text
