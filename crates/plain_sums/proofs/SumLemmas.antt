-- The cells of an integration, part by part.
use Rattle.std.specs.Prelude.{replicate}
use Rattle.std.proofs.Common.{◌≡◌, ◌∙◌, sym, ap, subst, ℕ, ◌+◌, ◌*◌, ◌<◌, ◌≤◌, min, List, Option, arith}
use Rattle.dev_traits.specs.Told.{WhereTold}
use Rattle.frame_index.proofs.ToldLemmas.{WhereTold-weaker, WhereTold-both, WhereTold-always}
use Rattle.piece_plan.proofs.Quotients.{below_ceil}
use Rattle.corr_model.specs.declared.cell.Cell.{Cell}
use Rattle.corr_model.specs.Cell.{no_cell}
use Rattle.corr_model.specs.Files.{Files}
use Rattle.job_plan.specs.declared.plan.ScanPlan.{ScanPlan}
use Rattle.job_plan.specs.declared.plan.Plan.{Plan}
use Rattle.job_plan.specs.Ranges.{IsPlan, IsScanPlan}
use Rattle.job_plan.specs.Values.{rotated}
use Rattle.job_plan.specs.Output.{integrations_of, integration_cells}
use Rattle.job_epochs.specs.Sums.{range_cells}
use Rattle.job_epochs.specs.Added.{add_cells, width_of}
use Rattle.job_epochs.proofs.SmallValues.{rotated-small}
use Rattle.job_epochs.proofs.RangeCells.{range_cells-none, range_cells-split}

-- an integration begins inside its scan
pub begins : (plan : Plan) (scan : ScanPlan) (m : ℕ) → IsPlan plan → m < integrations_of plan scan → m * plan.integration < scan.samples
begins plan scan m ranges inside = below_ceil scan.samples plan.integration m ranges.some_integration inside

module _ (plan : Plan) (scan : ScanPlan) (told : Option Files) where
  -- these are the cells of the samples from `from` up to, not including, `to`
  abbrev pub AreOf : ℕ → ℕ → List Cell → Type 0
  AreOf from to cells = WhereTold told (λ files. cells ≡ range_cells plan (rotated plan files scan) scan from to)

  pub none-yet : (from : ℕ) (cells : List Cell) → cells ≡ replicate (width_of plan scan) no_cell → AreOf from from cells
  none-yet from cells none =
      WhereTold-always told (λ files. cells ≡ range_cells plan (rotated plan files scan) scan from from)
      (λ files. none ∙ sym (range_cells-none plan (rotated plan files scan) scan from))

  -- one part more
  pub part-more : (told' : Option Files) (from at end : ℕ) (before after : List Cell) → IsPlan plan → IsScanPlan plan scan
      → told' ≡ told → from ≤ at → at ≤ end → end ≤ scan.samples
      → AreOf from at before
      → WhereTold told' (λ files. after ≡ add_cells before (range_cells plan (rotated plan files scan) scan at end))
      → AreOf from end after
  part-more told' from at end before after ranges scan_is same begun on inside so_far added =
      WhereTold-both told
      (λ files. before ≡ range_cells plan (rotated plan files scan) scan from at)
      (λ files. after ≡ add_cells before (range_cells plan (rotated plan files scan) scan at end))
      (λ files. after ≡ range_cells plan (rotated plan files scan) scan from end)
      (λ files are more.
      more ∙ ap (λ (cells : List Cell). add_cells cells (range_cells plan (rotated plan files scan) scan at end)) are
      ∙ range_cells-split plan (rotated plan files scan) scan from at end (rotated-small plan files scan ranges) begun on (omega (arith, inside, scan_is.samples)))
      so_far
      (subst (λ (o : Option Files). WhereTold o (λ files. after ≡ add_cells before (range_cells plan (rotated plan files scan) scan at end))) same added)

  -- all of them
  pub integration-whole : (m end : ℕ) (cells : List Cell) → end ≡ min ((m + 1) * plan.integration) scan.samples
      → AreOf (m * plan.integration) end cells
      → WhereTold told (λ files. cells ≡ integration_cells plan (rotated plan files scan) scan m)
  integration-whole m end cells at are =
      WhereTold-weaker told
      (λ files. cells ≡ range_cells plan (rotated plan files scan) scan (m * plan.integration) end)
      (λ files. cells ≡ integration_cells plan (rotated plan files scan) scan m)
      (λ files is. is ∙ ap (range_cells plan (rotated plan files scan) scan (m * plan.integration)) at)
      are
