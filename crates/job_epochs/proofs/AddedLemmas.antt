-- The epochs of an integration add up to its cells.
use Rattle.std.specs.Prelude.{replicate, slice_get, option_map, if◌then◌else◌}
use Rattle.std.specs.Int.{div_ceil}
use Rattle.std.specs.Option.{option_map_or}
use Rattle.std.proofs.Common.{◌≡◌, ◌∙◌, sym, ap, ℕ, ◌+◌, ◌-◌, ◌*◌, ◌^◌, ◌<◌, ◌≤◌, min, ◌==◌, ◌&&◌, List, [], ◌∷◌, map, length, Option, Some, arith}
use Rattle.std.proofs.lemmas.Bool.{cond-true}
use Rattle.std.proofs.lemmas.Option.{slice_get-map}
use Rattle.corr_model.specs.declared.cell.Cell.{Cell}
use Rattle.corr_model.specs.Cell.{Samples, no_cell}
use Rattle.corr_model.specs.Files.{Files}
use Rattle.piece_plan.specs.declared.job.ScanSize.{ScanSize}
use Rattle.piece_plan.specs.declared.epoch.EpochPlan.{EpochPlan}
use Rattle.piece_plan.specs.Parts.{Range, GoThrough, parts}
use Rattle.piece_plan.specs.Epochs.{JobSizes, range_of, integration_at, integration_count, integration_epochs, epochs_of}
use Rattle.piece_plan.proofs.Quotients.{below_ceil}
use Rattle.piece_plan.proofs.PartLemmas.{parts-GoThrough}
use Rattle.piece_plan.proofs.SumLemmas.{GoThrough-order}
use Rattle.job_plan.specs.declared.plan.ScanPlan.{ScanPlan}
use Rattle.job_plan.specs.declared.plan.Plan.{Plan}
use Rattle.job_plan.specs.Ranges.{IsPlan, IsScanPlan}
use Rattle.job_plan.specs.Values.{rotated}
use Rattle.job_plan.specs.Output.{integrations_of, integration_cells}
use Rattle.job_epochs.specs.Sizes.{size_of, sizes_of}
use Rattle.job_epochs.specs.Sums.{range_cells, epoch_sums, sums_of}
use Rattle.job_epochs.specs.Added.{add_cells, is_of, added_cells, width_of}
use Rattle.job_epochs.proofs.SmallValues.{at-place, rotated-small}
use Rattle.job_epochs.proofs.RangeCells.{AllSmall, range_cells-none, range_cells-split}
use Rattle.job_epochs.proofs.FoldLemmas.{added_by, added_from-is, is_of-true, epochs-one}

-- what ranges that go on behind the cells so far add
ranges-added : (plan : Plan) (z : Samples) (scan : ScanPlan) (f : EpochPlan → List Cell) (job : JobSizes) (size : ScanSize)
    (number m start from to : ℕ) (sum : List Cell) (ranges : List Range) → AllSmall z → to ≤ 2 ^ 40
    → ((r : Range) → f (range_of job number size m r) ≡ range_cells plan z scan r.from r.to)
    → start ≤ from → GoThrough from to ranges → sum ≡ range_cells plan z scan start from
    → added_by f number m sum (map (range_of job number size m) ranges) ≡ range_cells plan z scan start to
ranges-added plan z scan f job size number m start from to sum [] small few each order through is =
    is ∙ ap (range_cells plan z scan start) through
ranges-added plan z scan f job size number m start from to sum (r ∷ ranges) small few each order through is =
    let begins : r.from ≡ from = through.0 in
    let some : r.from < r.to = through.1 in
    let rest : r.to ≤ to = GoThrough-order r.to to ranges through.2 in
    let counted : (if is_of number m (range_of job number size m r) then add_cells sum (f (range_of job number size m r)) else sum)
    ≡ add_cells sum (f (range_of job number size m r)) =
    cond-true ((number == number) && (m == m)) _ _ (is_of-true number m) in
    let added : add_cells sum (f (range_of job number size m r)) ≡ range_cells plan z scan start r.to =
    ap (λ (cells : List Cell). add_cells cells (f (range_of job number size m r))) is
    ∙ ap (add_cells (range_cells plan z scan start from)) (each r)
    ∙ ap (λ (n : ℕ). add_cells (range_cells plan z scan start from) (range_cells plan z scan n r.to)) begins
    ∙ range_cells-split plan z scan start from r.to small order (omega (arith, begins, some)) (omega (arith, rest, few)) in
    ranges-added plan z scan f job size number m start r.to to _ ranges small few each (omega (arith, order, begins, some))
    through.2 (counted ∙ added)

-- those of an integration, from none
integration-added : (plan : Plan) (z : Samples) (scan : ScanPlan) (f : EpochPlan → List Cell) (job : JobSizes) (size : ScanSize)
    (number m : ℕ) → AllSmall z → 0 < job.epoch
    → (integration_at job size m).from ≤ (integration_at job size m).to → (integration_at job size m).to ≤ 2 ^ 40
    → ((r : Range) → f (range_of job number size m r) ≡ range_cells plan z scan r.from r.to)
    → added_by f number m (replicate (width_of plan scan) no_cell) (integration_epochs job number size m)
    ≡ range_cells plan z scan (integration_at job size m).from (integration_at job size m).to
unfolding integration_epochs
integration-added plan z scan f job size number m small some order few each =
    ranges-added plan z scan f job size number m
    (integration_at job size m).from (integration_at job size m).from (integration_at job size m).to
    (replicate (width_of plan scan) no_cell) (parts (integration_at job size m).from (integration_at job size m).to job.epoch)
    small few each (omega arith)
    (parts-GoThrough (integration_at job size m).from (integration_at job size m).to job.epoch order some)
    (sym (range_cells-none plan z scan (integration_at job size m).from))

-- the sums of epoch i of a plan
pub sums_of-at : (plan : Plan) (files : Files) (i : ℕ) (e : EpochPlan) → slice_get (epochs_of (sizes_of plan)) i ≡ Some e
    → sums_of plan files i ≡ epoch_sums plan files e
sums_of-at plan files i e there = ap (λ (o : Option EpochPlan). option_map_or (epoch_sums plan files) o []) there

-- the sums of an epoch of a scan
pub epoch_sums-at : (plan : Plan) (files : Files) (scan : ScanPlan) (e : EpochPlan) → slice_get plan.scans e.scan ≡ Some scan
    → epoch_sums plan files e ≡ range_cells plan (rotated plan files scan) scan e.from e.to
epoch_sums-at plan files scan e there =
    ap (λ (o : Option ScanPlan). option_map_or (λ (s : ScanPlan). range_cells plan (rotated plan files s) s e.from e.to) o []) there

-- an integration's cells are those of its samples
pub integration_cells-is : (plan : Plan) (z : Samples) (scan : ScanPlan) (m : ℕ)
    → range_cells plan z scan
    (integration_at (sizes_of plan) (size_of plan scan) m).from (integration_at (sizes_of plan) (size_of plan scan) m).to
    ≡ integration_cells plan z scan m
integration_cells-is plan z scan m =
    let from : 0 + m * plan.integration ≡ m * plan.integration = omega arith in
    let to : 0 + (m + 1) * plan.integration ≡ (m + 1) * plan.integration = omega arith in
    ap (λ (n : ℕ). range_cells plan z scan n (min (0 + (m + 1) * plan.integration) scan.samples)) from
    ∙ ap (λ (n : ℕ). range_cells plan z scan (m * plan.integration) (min n scan.samples)) to

-- cells that are the sums of each epoch add up to those of an integration
pub cells_add_up : (plan : Plan) (files : Files) (cells : ℕ → List Cell) (number m : ℕ) (scan : ScanPlan) → IsPlan plan
    → slice_get plan.scans number ≡ Some scan → m < integrations_of plan scan
    → ((i : ℕ) (e : EpochPlan) → slice_get (epochs_of (sizes_of plan)) i ≡ Some e → cells i ≡ epoch_sums plan files e)
    → added_cells plan cells scan number m ≡ integration_cells plan (rotated plan files scan) scan m
unfolding added_cells
cells_add_up plan files cells number m scan is there inside each =
    let scan_is : IsScanPlan plan scan = at-place (IsScanPlan plan) plan.scans number scan is.scans there in
    let at : slice_get (sizes_of plan).scans number ≡ Some (size_of plan scan) =
    slice_get-map (size_of plan) plan.scans number ∙ ap (option_map (size_of plan)) there in
    let whole : scan.samples ≡ scan.samples - 0 * plan.integration = omega arith in
    let count : m < 0 + integration_count (sizes_of plan) (size_of plan scan) =
    omega (arith, inside, ap (λ (n : ℕ). div_ceil n plan.integration) whole) in
    let begun : m * plan.integration < scan.samples = below_ceil scan.samples plan.integration m is.some_integration inside in
    added_from-is cells (epoch_sums plan files) number m 0 (replicate (width_of plan scan) no_cell) (epochs_of (sizes_of plan))
    (λ i e here.
    let place : 0 + i ≡ i = omega arith in
    ap cells place ∙ each i e here)
    ∙ epochs-one (epoch_sums plan files) number m (sizes_of plan) (size_of plan scan)
    (replicate (width_of plan scan) no_cell) at (omega arith) count
    ∙ integration-added plan (rotated plan files scan) scan (epoch_sums plan files) (sizes_of plan) (size_of plan scan) number m
    (rotated-small plan files scan is) is.some_epoch (omega (arith, begun)) (omega (arith, scan_is.samples))
    (λ r. epoch_sums-at plan files scan (range_of (sizes_of plan) number (size_of plan scan) m r) there)
    ∙ integration_cells-is plan (rotated plan files scan) scan m

pub sums_add_up : (plan : Plan) (files : Files) (number m : ℕ) (scan : ScanPlan) → IsPlan plan → length plan.scans ≤ 8388608
    → slice_get plan.scans number ≡ Some scan → m < integrations_of plan scan
    → added_cells plan (sums_of plan files) scan number m ≡ integration_cells plan (rotated plan files scan) scan m
sums_add_up plan files number m scan is few there inside =
    cells_add_up plan files (sums_of plan files) number m scan is there inside (sums_of-at plan files)
