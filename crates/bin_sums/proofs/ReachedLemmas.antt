-- The sums of an epoch by bins from the planes of its scan's stations are the cells of the epoch's samples by bins.
use Rattle.std.specs.Prelude.{flat_map}
use Rattle.std.specs.List.{range_with_len}
use Rattle.std.proofs.Common.{◌≡◌, ◌∙◌, ap, ℕ, ◌*◌, List, length, map, Option, arith}
use Rattle.std.proofs.lemmas.List.Folds.{flat_map-map}
use Rattle.std.proofs.lemmas.List.FromFn.{length-map-range_with_len, length-range_with_len}
use Rattle.dev_traits.specs.Told.{WhereTold}
use Rattle.frame_index.proofs.ToldLemmas.{WhereTold-weaker}
use Rattle.bit_planes.specs.Planes.{PlanesFields}
use Rattle.corr_model.specs.declared.cell.Cell.{Cell}
use Rattle.corr_model.specs.declared.cell.Pair.{Pair}
use Rattle.corr_model.specs.Cell.{Samples}
use Rattle.corr_model.specs.Delay.{DelayModel}
use Rattle.corr_model.specs.Files.{Files}
use Rattle.corr_model.specs.Lags.{lag_of}
use Rattle.piece_plan.specs.declared.epoch.EpochPlan.{EpochPlan}
use Rattle.job_plan.specs.declared.plan.ProductPlan.{ProductPlan}
use Rattle.job_plan.specs.declared.plan.BaselinePlan.{BaselinePlan}
use Rattle.job_plan.specs.declared.plan.ScanPlan.{ScanPlan}
use Rattle.job_plan.specs.declared.plan.Plan.{Plan}
use Rattle.job_plan.specs.Values.{rotated}
use Rattle.job_epochs.specs.Sums.{pair_of}
use Rattle.pulsar_bins.specs.Bin.{bin_at}
use Rattle.pulsar_bins.specs.Bins.{BinsFields}
use Rattle.pulsar_bins.specs.Scans.{phase_in_scan, scan_bin}
use Rattle.pulsar_bins.specs.Cells.{bin_cell_in}
use Rattle.epoch_run.specs.Planes.{planed}
use Rattle.epoch_run.specs.Binned.{lag_cells, bin_cells_in_epoch}
use Rattle.run_sums.specs.declared.values.EpochValues.{EpochValues}
use Rattle.run_sums.specs.Found.{IsEpochOf}
use Rattle.run_sums.specs.Pairs.{placed_pair, pairs_in}
use Rattle.run_sums.specs.Reach.{AreReached, HoldsEpoch}
use Rattle.run_sums.proofs.SumsLemmas.{flat_map-flat_map, flat_map-same, length-flat_map_each, length-pairs_in, map-range-same, planed-here, planed-lagged}
use Rattle.bin_sums.specs.Binned.{bin_width}
use Rattle.bin_sums.specs.Range.{bin_lag_cells, bin_record_cells, bin_product_cells, range_bin_cells}
use Rattle.bin_sums.proofs.GatedLemmas.{bin_cell_in-values}

-- ---- how many cells

length-bins_of : (z : Samples) (samples : ℕ) (e : EpochPlan) (bins : ℕ → ℕ) (count : ℕ) (pair : Pair)
    → length (flat_map (lag_cells bins z samples e.lags e.from e.to pair) (range_with_len 0 count)) ≡ count * e.lags
length-bins_of z samples e bins count pair =
    length-flat_map_each (lag_cells bins z samples e.lags e.from e.to pair) e.lags (range_with_len 0 count)
    (λ bin. length-map-range_with_len (λ i. bin_cell_in bins bin z pair samples (lag_of e.lags i) e.from e.to) 0 e.lags)
    ∙ ap (λ n. n * e.lags) (length-range_with_len 0 count)

pub length-bin_cells_in_epoch : (plan : Plan) (bins : BinsFields) (scan : ScanPlan) (e : EpochPlan) (z : Samples) (pairs : List Pair) (bin : ℕ → ℕ)
    → IsEpochOf plan scan e → pairs ≡ pairs_in plan scan
    → length (bin_cells_in_epoch z pairs scan.samples e bin bins.count) ≡ bin_width plan bins scan
length-bin_cells_in_epoch plan bins scan e z pairs bin is pairs_are =
    let count : length pairs ≡ length plan.products * length scan.baselines = ap length pairs_are ∙ length-pairs_in plan scan in
    length-flat_map_each (λ pair. flat_map (lag_cells bin z scan.samples e.lags e.from e.to pair) (range_with_len 0 bins.count)) (bins.count * e.lags) pairs
    (length-bins_of z scan.samples e bin bins.count)
    ∙ ap (λ n. n * (bins.count * e.lags)) count
    ∙ ap (λ n. length plan.products * length scan.baselines * (bins.count * n)) is.lags
    ∙ grind arith

-- as many as an epoch's cells by so many bins
pub bin_width-epoch : (plan : Plan) (bins : BinsFields) (scan : ScanPlan) (e : EpochPlan) → IsEpochOf plan scan e
    → e.products * e.baselines * e.lags * bins.count ≡ bin_width plan bins scan
bin_width-epoch plan bins scan e is =
    ap (λ n. n * e.baselines * e.lags * bins.count) is.products
    ∙ ap (λ n. length plan.products * n * e.lags * bins.count) is.baselines
    ∙ ap (λ n. length plan.products * length scan.baselines * n * bins.count) is.lags
    ∙ grind arith

-- ---- the cells

module _ (plan : Plan) (bins : BinsFields) (scan : ScanPlan) (e : EpochPlan) (planes : List (List PlanesFields)) (files : Files) (is : IsEpochOf plan scan e)
    (count : length planes ≡ length scan.stays) (are : AreReached plan scan e planes files) where
  -- the bin of each sample, and the values of the scan
  abbrev bin_of : ℕ → ℕ
  bin_of = scan_bin plan bins scan

  abbrev values : Samples
  values = rotated plan files scan

  lags-reached : (p : ProductPlan) (b : BaselinePlan) (bin : ℕ)
      → lag_cells bin_of (planed planes) scan.samples e.lags e.from e.to (placed_pair scan p b) bin ≡ bin_lag_cells plan bins values scan e.from e.to p b bin
  lags-reached p b bin =
      map-range-same (λ i. bin_cell_in bin_of bin (planed planes) (placed_pair scan p b) scan.samples (lag_of e.lags i) e.from e.to)
      (λ i. bin_cell_in bin_of bin values (pair_of p b) scan.samples (lag_of e.lags i) e.from e.to) e.lags
      (λ i less. bin_cell_in-values bin_of bin (planed planes) values (placed_pair scan p b) (pair_of p b) scan.samples (lag_of e.lags i) e.from e.to
      (λ n begun under. planed-here plan scan e planes files b.a p.x n is count are begun under)
      (λ n begun under inside. planed-lagged plan scan e planes files b.b p.y n i is count are begun under less inside))
      ∙ ap (λ lags. lag_cells bin_of values scan.samples lags e.from e.to (pair_of p b) bin) is.lags

  bins-reached : (p : ProductPlan) (b : BaselinePlan)
      → flat_map (lag_cells bin_of (planed planes) scan.samples e.lags e.from e.to (placed_pair scan p b)) (range_with_len 0 bins.count)
      ≡ bin_record_cells plan bins values scan e.from e.to p b
  bins-reached p b =
      flat_map-same (lag_cells bin_of (planed planes) scan.samples e.lags e.from e.to (placed_pair scan p b))
      (bin_lag_cells plan bins values scan e.from e.to p b) (range_with_len 0 bins.count) (lags-reached p b)

  range_bin_cells-reached : bin_cells_in_epoch (planed planes) (pairs_in plan scan) scan.samples e bin_of bins.count
      ≡ range_bin_cells plan bins values scan e.from e.to
  range_bin_cells-reached =
      let cells : Pair → List Cell = λ pair. flat_map (lag_cells bin_of (planed planes) scan.samples e.lags e.from e.to pair) (range_with_len 0 bins.count) in
      let pairs : ProductPlan → List Pair = λ p. map (placed_pair scan p) scan.baselines in
      flat_map-flat_map cells pairs plan.products
      ∙ flat_map-same (λ p. flat_map cells (pairs p)) (bin_product_cells plan bins values scan e.from e.to) plan.products
      (λ p. flat_map-map cells (placed_pair scan p) scan.baselines
      ∙ flat_map-same (λ b. cells (placed_pair scan p b)) (bin_record_cells plan bins values scan e.from e.to p) scan.baselines (bins-reached p))

-- sums by the phase in the scan, from values that the epoch's lags reach
pub sums-reached : (told : Option Files) (plan : Plan) (bins : BinsFields) (scan : ScanPlan) (e : EpochPlan) (v : EpochValues) (phase : DelayModel) (sums : List Cell)
    → IsEpochOf plan scan e → phase ≡ phase_in_scan plan bins.phases scan
    → sums ≡ bin_cells_in_epoch (planed v.planes) v.pairs.items scan.samples e (bin_at bins.count phase) bins.count
    → HoldsEpoch told plan scan e v
    → WhereTold told (λ (files : Files). sums ≡ range_bin_cells plan bins (rotated plan files scan) scan e.from e.to)
sums-reached told plan bins scan e v phase sums is same are_cells holds =
    let cells : sums ≡ bin_cells_in_epoch (planed v.planes) (pairs_in plan scan) scan.samples e (scan_bin plan bins scan) bins.count =
    are_cells ∙ ap (λ (m : DelayModel). bin_cells_in_epoch (planed v.planes) v.pairs.items scan.samples e (bin_at bins.count m) bins.count) same
    ∙ ap (λ (pairs : List Pair). bin_cells_in_epoch (planed v.planes) pairs scan.samples e (scan_bin plan bins scan) bins.count) holds.pairs in
    WhereTold-weaker told (AreReached plan scan e v.planes) (λ (files : Files). sums ≡ range_bin_cells plan bins (rotated plan files scan) scan e.from e.to)
    (λ files are. cells ∙ range_bin_cells-reached plan bins scan e v.planes files is holds.count are)
    holds.values
