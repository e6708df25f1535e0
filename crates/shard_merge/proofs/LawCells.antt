-- The cells of a shard that covers an integration, where each of its bodies is the text of its epoch's sums.
use Rattle.std.specs.Prelude.{replicate, slice_get, option_map, filter}
use Rattle.std.specs.Option.{option_map_or}
use Rattle.std.proofs.Common.{◌≡◌, ◌∙◌, sym, ap, refl, ℕ, ◌+◌, ◌*◌, ◌^◌, ◌≤◌, true, false, ◌==◌, List, [], ◌∷◌, Option, Some, suc, arith}
use Rattle.std.proofs.Math.Nat.{zero-add}
use Rattle.std.proofs.lemmas.Bool.{eqb-true}
use Rattle.std.proofs.lemmas.Option.{slice_get-map}
use Rattle.corr_model.specs.declared.cell.Cell.{Cell}
use Rattle.corr_model.specs.Cell.{Samples, no_cell}
use Rattle.corr_model.specs.Files.{Files}
use Rattle.piece_plan.specs.declared.job.ScanSize.{ScanSize}
use Rattle.piece_plan.specs.Epochs.{JobSizes, IsEpoch, integration_at}
use Rattle.job_plan.specs.declared.plan.ScanPlan.{ScanPlan}
use Rattle.job_plan.specs.declared.plan.Plan.{Plan}
use Rattle.job_plan.specs.Ranges.{IsPlan, IsScanPlan}
use Rattle.job_plan.specs.Values.{rotated}
use Rattle.job_plan.specs.Output.{integration_cells}
use Rattle.job_epochs.specs.Sizes.{size_of, sizes_of}
use Rattle.job_epochs.specs.Sums.{range_cells, epoch_sums}
use Rattle.job_epochs.specs.Added.{add_cells, is_of, width_of}
use Rattle.job_epochs.proofs.EachLemmas.{Each}
use Rattle.job_epochs.proofs.SmallValues.{at-place, rotated-small}
use Rattle.job_epochs.proofs.RangeCells.{AllSmall, range_cells-none, range_cells-split}
use Rattle.job_epochs.proofs.AddedLemmas.{epoch_sums-at}
use Rattle.checkpoint_journal.specs.Cells.{body_text, body_cells}
use Rattle.journal_image.specs.Image.{KeptEpoch}
use Rattle.shard_merge.specs.Covers.{follow, covers, epochs_of_kept, width_at, added, kept_in, shard_cells}
use Rattle.shard_merge.specs.Honest.{EpochsFit, AreHonest}
use Rattle.shard_merge.proofs.LawLists.{both-left, both-right, Each-all, Each-filter, filter-map}
use Rattle.checkpoint_journal.proofs.BodyCells.{body_cells-body_text}
use Rattle.job_epochs.proofs.EpochCells.{epoch_sums-IsCell}

-- an epoch of the integration, with the cells of its samples
record IsOwn (plan : Plan) (z : Samples) (scan : ScanPlan) (job : JobSizes) (number m : ℕ) (k : KeptEpoch) : Type 0 where
  number_is : k.epoch.scan ≡ number
  m_is : k.epoch.m ≡ m
  fits : IsEpoch job k.epoch
  cells : body_cells k.body ≡ range_cells plan z scan k.epoch.from k.epoch.to

-- epochs of the integration that follow one another add what stands between
follow-added : (plan : Plan) (z : Samples) (scan : ScanPlan) (job : JobSizes) (size : ScanSize) (number m start n end : ℕ) (sum : List Cell)
    (kept : List KeptEpoch) → AllSmall z → slice_get job.scans number ≡ Some size → (integration_at job size m).to ≤ 2 ^ 40
    → Each (IsOwn plan z scan job number m) kept → start ≤ n → follow n end (epochs_of_kept kept) ≡ true
    → sum ≡ range_cells plan z scan start n → added sum kept ≡ range_cells plan z scan start end
follow-added plan z scan job size number m start n end sum [] small there few own low follows is =
    is ∙ ap (range_cells plan z scan start) (eqb-true n end follows)
follow-added plan z scan job size number m start n end sum (k ∷ kept) small there few own low follows is =
    let here : IsOwn plan z scan job number m k = own 0 k refl in
    let fits : IsEpoch job k.epoch = here.fits in
    let begins : k.epoch.from ≡ n =
    eqb-true k.epoch.from n (both-left (k.epoch.from == n) (follow k.epoch.to end (epochs_of_kept kept)) follows) in
    let sizes : ◌≡◌ {A = Option ScanSize} (Some fits.size) (Some size) =
    sym fits.scan ∙ ap (slice_get job.scans) here.number_is ∙ there in
    let size_is : fits.size ≡ size = cc in
    let end_is : (integration_at job fits.size k.epoch.m).to ≡ (integration_at job size m).to =
    ap (λ (s : ScanSize). (integration_at job s k.epoch.m).to) size_is ∙ ap (λ (j : ℕ). (integration_at job size j).to) here.m_is in
    let within : k.epoch.to ≤ (integration_at job size m).to = omega (arith, fits.to, end_is) in
    follow-added plan z scan job size number m start k.epoch.to end (add_cells sum (body_cells k.body)) kept small there few
    (λ i d at. own (suc i) d at) (omega (arith, low, begins, fits.some))
    (both-right (k.epoch.from == n) (follow k.epoch.to end (epochs_of_kept kept)) follows)
    (ap (λ (cells : List Cell). add_cells cells (body_cells k.body)) is
    ∙ ap (add_cells (range_cells plan z scan start n)) here.cells
    ∙ ap (λ (from : ℕ). add_cells (range_cells plan z scan start n) (range_cells plan z scan from k.epoch.to)) begins
    ∙ range_cells-split plan z scan start n k.epoch.to small low (omega (arith, begins, fits.some)) (omega (arith, within, few)))

-- an integration's cells are those of its samples
integration_cells-is : (plan : Plan) (z : Samples) (scan : ScanPlan) (m : ℕ)
    → range_cells plan z scan
    (integration_at (sizes_of plan) (size_of plan scan) m).from (integration_at (sizes_of plan) (size_of plan scan) m).to
    ≡ integration_cells plan z scan m
integration_cells-is plan z scan m = rw (zero-add (m * plan.integration), zero-add ((m + 1) * plan.integration)) refl

-- kept epochs that are the job's and have its sums
abbrev pub AreTrue : Plan → Files → List KeptEpoch → Type 0
AreTrue plan files kept = EpochsFit (sizes_of plan) kept × AreHonest plan files kept

module _ (plan : Plan) (files : Files) (number m : ℕ) (scan : ScanPlan) (is : IsPlan plan) (there : slice_get plan.scans number ≡ Some scan) where
  size-there : slice_get (sizes_of plan).scans number ≡ Some (size_of plan scan)
  size-there = slice_get-map (size_of plan) plan.scans number ∙ ap (option_map (size_of plan)) there

  -- what a true epoch of the integration is
  own-is : (k : KeptEpoch) → IsEpoch (sizes_of plan) k.epoch → k.body ≡ body_text (epoch_sums plan files k.epoch)
      → is_of number m k.epoch ≡ true → IsOwn plan (rotated plan files scan) scan (sizes_of plan) number m k
  own-is k fits body own =
      let number_is : k.epoch.scan ≡ number = eqb-true k.epoch.scan number (both-left (k.epoch.scan == number) (k.epoch.m == m) own) in
      record {
        number_is = number_is;
        m_is = eqb-true k.epoch.m m (both-right (k.epoch.scan == number) (k.epoch.m == m) own);
        fits = fits;
        cells =
            ap body_cells body
            ∙ body_cells-body_text (epoch_sums plan files k.epoch) (epoch_sums-IsCell plan files k.epoch is fits)
            ∙ epoch_sums-at plan files scan k.epoch (ap (slice_get plan.scans) number_is ∙ there);
      }

  owns : (kept : List KeptEpoch) → AreTrue plan files kept
      → Each (IsOwn plan (rotated plan files scan) scan (sizes_of plan) number m) (kept_in number m kept)
  owns kept sums i k at =
      let Fits : KeptEpoch → Type 0 = λ d. IsEpoch (sizes_of plan) d.epoch × (d.body ≡ body_text (epoch_sums plan files d.epoch)) in
      let all : Each Fits kept =
      λ j d here. (
        Each-all (λ (x : KeptEpoch). IsEpoch (sizes_of plan) x.epoch) kept sums.0 j d here,
        Each-all (λ (x : KeptEpoch). x.body ≡ body_text (epoch_sums plan files x.epoch)) kept sums.1 j d here,
      ) in
      let passed = Each-filter Fits (λ (x : KeptEpoch). is_of number m x.epoch) kept all i k at in
      own-is k passed.0.0 passed.0.1 passed.1

  -- the epochs of the integration follow one another
  covers-follow : (kept : List KeptEpoch) → covers (sizes_of plan) number m (epochs_of_kept kept) ≡ true
      → follow (integration_at (sizes_of plan) (size_of plan scan) m).from (integration_at (sizes_of plan) (size_of plan scan) m).to
      (epochs_of_kept (kept_in number m kept))
      ≡ true
  covers-follow kept covered =
      let from : ℕ = (integration_at (sizes_of plan) (size_of plan scan) m).from in
      let to : ℕ = (integration_at (sizes_of plan) (size_of plan scan) m).to in
      ap (follow from to) (sym (filter-map (is_of number m) (λ (k : KeptEpoch). k.epoch) kept))
      ∙ sym (ap
      (λ (o : Option ScanSize).
      option_map_or
      (λ (size : ScanSize).
      follow (integration_at (sizes_of plan) size m).from (integration_at (sizes_of plan) size m).to
      (filter (is_of number m) (epochs_of_kept kept)))
      o false)
      size-there)
      ∙ covered

  pub shard_cells-are : (kept : List KeptEpoch) → AreTrue plan files kept → covers (sizes_of plan) number m (epochs_of_kept kept) ≡ true
      → shard_cells (sizes_of plan) number m kept ≡ integration_cells plan (rotated plan files scan) scan m
  shard_cells-are kept sums covered =
      let scan_is : IsScanPlan plan scan = at-place (IsScanPlan plan) plan.scans number scan is.scans there in
      let from : ℕ = (integration_at (sizes_of plan) (size_of plan scan) m).from in
      let to : ℕ = (integration_at (sizes_of plan) (size_of plan scan) m).to in
      let width : width_at (sizes_of plan) number ≡ width_of plan scan =
      ap (λ (o : Option ScanSize). option_map_or (λ (size : ScanSize). size.products * size.baselines * plan.lags) o 0) size-there in
      follow-added plan (rotated plan files scan) scan (sizes_of plan) (size_of plan scan) number m from from to
      (replicate (width_at (sizes_of plan) number) no_cell) (kept_in number m kept)
      (rotated-small plan files scan is) size-there (omega (arith, scan_is.samples)) (owns kept sums) (omega arith)
      (covers-follow kept covered)
      (ap (λ (n : ℕ). replicate n no_cell) width ∙ sym (range_cells-none plan (rotated plan files scan) scan from))
      ∙ integration_cells-is plan (rotated plan files scan) scan m
