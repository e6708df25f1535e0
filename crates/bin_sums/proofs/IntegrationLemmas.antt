-- The cells of an integration by bins, epoch by epoch.
use Rattle.std.specs.Prelude.{replicate}
use Rattle.std.proofs.Common.{◌≡◌, ◌∙◌, sym, ap, subst, ℕ, ◌*◌, ◌≤◌, List, Option, arith}
use Rattle.dev_traits.specs.Told.{WhereTold}
use Rattle.frame_index.proofs.ToldLemmas.{WhereTold-weaker, WhereTold-both, WhereTold-always}
use Rattle.corr_model.specs.declared.cell.Cell.{Cell}
use Rattle.corr_model.specs.Cell.{no_cell}
use Rattle.corr_model.specs.Files.{Files}
use Rattle.job_plan.specs.declared.plan.ScanPlan.{ScanPlan}
use Rattle.job_plan.specs.declared.plan.Plan.{Plan}
use Rattle.job_plan.specs.Ranges.{IsPlan, IsScanPlan}
use Rattle.job_plan.specs.Values.{rotated}
use Rattle.job_plan.specs.Output.{integration_start, integration_end}
use Rattle.job_epochs.specs.Added.{add_cells}
use Rattle.job_epochs.proofs.SmallValues.{rotated-small}
use Rattle.pulsar_bins.specs.Bins.{BinsFields}
use Rattle.bin_sums.specs.Binned.{bin_width, integration_bin_cells}
use Rattle.bin_sums.specs.Range.{range_bin_cells}
use Rattle.bin_sums.proofs.RangeLemmas.{range_bin_cells-none, range_bin_cells-split}

module _ (plan : Plan) (bins : BinsFields) (scan : ScanPlan) (told : Option Files) where
  -- these are the cells by bins of the samples from `from` up to, not including, `to`
  abbrev pub AreOf : ℕ → ℕ → List Cell → Type 0
  AreOf from to cells = WhereTold told (λ files. cells ≡ range_bin_cells plan bins (rotated plan files scan) scan from to)

  pub none-yet : (from : ℕ) (cells : List Cell) → cells ≡ replicate (bin_width plan bins scan) no_cell → AreOf from from cells
  none-yet from cells none =
      WhereTold-always told (λ files. cells ≡ range_bin_cells plan bins (rotated plan files scan) scan from from)
      (λ files. none ∙ sym (range_bin_cells-none plan bins (rotated plan files scan) scan from))

  -- one epoch more
  pub epoch-more : (told' : Option Files) (from at first end : ℕ) (before after : List Cell) → IsPlan plan → IsScanPlan plan scan
      → told' ≡ told → first ≡ at → from ≤ at → at ≤ end → end ≤ scan.samples
      → AreOf from at before
      → WhereTold told' (λ files. after ≡ add_cells before (range_bin_cells plan bins (rotated plan files scan) scan first end))
      → AreOf from end after
  epoch-more told' from at first end before after ranges scan_is same here begun on inside so_far added =
      WhereTold-both told
      (λ files. before ≡ range_bin_cells plan bins (rotated plan files scan) scan from at)
      (λ files. after ≡ add_cells before (range_bin_cells plan bins (rotated plan files scan) scan first end))
      (λ files. after ≡ range_bin_cells plan bins (rotated plan files scan) scan from end)
      (λ files are more.
      more
      ∙ ap (λ (n : ℕ). add_cells before (range_bin_cells plan bins (rotated plan files scan) scan n end)) here
      ∙ ap (λ (cells : List Cell). add_cells cells (range_bin_cells plan bins (rotated plan files scan) scan at end)) are
      ∙ range_bin_cells-split plan bins (rotated plan files scan) scan from at end (rotated-small plan files scan ranges) begun on (omega (arith, inside, scan_is.samples)))
      so_far
      (subst (λ (o : Option Files). WhereTold o (λ files. after ≡ add_cells before (range_bin_cells plan bins (rotated plan files scan) scan first end))) same added)

  -- all of them
  pub integration-whole : (m from end : ℕ) (cells : List Cell) → from ≡ integration_start plan m → end ≡ integration_end plan scan m → AreOf from end cells
      → WhereTold told (λ files. cells ≡ integration_bin_cells plan bins (rotated plan files scan) scan m)
  integration-whole m from end cells begin at are =
      WhereTold-weaker told
      (λ files. cells ≡ range_bin_cells plan bins (rotated plan files scan) scan from end)
      (λ files. cells ≡ integration_bin_cells plan bins (rotated plan files scan) scan m)
      (λ files is. is ∙ ap (λ (n : ℕ). range_bin_cells plan bins (rotated plan files scan) scan n end) begin
      ∙ ap (range_bin_cells plan bins (rotated plan files scan) scan (m * plan.integration)) at)
      are
