-- The sums of an epoch from the planes of its scan's stations are those of the plan's definition.
use Rattle.std.specs.Prelude.{flat_map}
use Rattle.std.specs.List.{range_with_len}
use Rattle.std.specs.Option.{option_map_or}
use Rattle.std.proofs.Common.{◌≡◌, ℕ, ◌*◌, ◌<◌, ◌≤◌, pos, ◌+ℤ◌, true, List, [], ◌∷◌, ◌++◌, length, map, Option, refl, sym, ap, ◌∙◌, arith}
use Rattle.std.proofs.lemmas.List.{length-append, length-map}
use Rattle.std.proofs.lemmas.List.Concat.{flat_map-append}
use Rattle.std.proofs.lemmas.List.Folds.{flat_map-map}
use Rattle.std.proofs.lemmas.List.FromFn.{length-map-range_with_len, get_or-map-range_with_len, fill_by_all}
use Rattle.dev_traits.specs.Told.{WhereTold}
use Rattle.atomic_sums.specs.Sums.{EpochCells}
use Rattle.bit_planes.specs.Planes.{PlanesFields}
use Rattle.frame_index.proofs.ToldLemmas.{WhereTold-weaker}
use Rattle.corr_model.specs.declared.cell.Cell.{Cell}
use Rattle.corr_model.specs.declared.cell.Pair.{Pair}
use Rattle.corr_model.specs.Cell.{Samples, no_cell, cell_in, is_inside}
use Rattle.corr_model.specs.Files.{Files}
use Rattle.corr_model.specs.Lags.{lag_of}
use Rattle.corr_model.proofs.CellLemmas.{cell_in-values}
use Rattle.piece_plan.specs.declared.epoch.EpochPlan.{EpochPlan}
use Rattle.piece_plan.specs.Epochs.{cell_count}
use Rattle.job_plan.specs.declared.plan.ProductPlan.{ProductPlan}
use Rattle.job_plan.specs.declared.plan.BaselinePlan.{BaselinePlan}
use Rattle.job_plan.specs.declared.plan.ScanPlan.{ScanPlan}
use Rattle.job_plan.specs.declared.plan.Plan.{Plan}
use Rattle.job_plan.specs.Values.{rotated}
use Rattle.job_epochs.specs.Sums.{pair_of, lag_cells, baseline_cells, range_cells, epoch_sums}
use Rattle.epoch_run.specs.Planes.{planed}
use Rattle.epoch_run.specs.Sums.{IsSummed, pair_cells, cells_in_epoch}
use Rattle.run_sums.specs.Found.{IsEpochOf, IsOfScan}
use Rattle.run_sums.specs.declared.values.EpochValues.{EpochValues}
use Rattle.run_sums.specs.Reach.{AreReached, HoldsEpoch}
use Rattle.run_sums.specs.Sums.{AreSums}
use Rattle.run_sums.specs.Pairs.{place_in, placed_pair, pairs_in}
use Rattle.run_sums.proofs.PlaceLemmas.{planed-place}
use Rattle.run_sums.proofs.FoundLemmas.{scan-one}
use Rattle.run_sums.proofs.ReachLemmas.{inside-epoch, inside-lagged}

-- ---- lists of lists

pub flat_map-flat_map : {X Y Z : Type 0} (f : Y → List Z) (g : X → List Y) (xs : List X) → flat_map f (flat_map g xs) ≡ flat_map (λ x. flat_map f (g x)) xs
flat_map-flat_map f g [] = refl
flat_map-flat_map f g (x ∷ xs) = flat_map-append f (g x) (flat_map g xs) ∙ ap (λ rest. flat_map f (g x) ++ rest) (flat_map-flat_map f g xs)

pub flat_map-same : {X Y : Type 0} (f g : X → List Y) (xs : List X) → ((x : X) → f x ≡ g x) → flat_map f xs ≡ flat_map g xs
flat_map-same f g xs same = ap (λ h. flat_map h xs) (λ i x. same x i)

pub length-flat_map_each : {X Y : Type 0} (f : X → List Y) (per : ℕ) (xs : List X) → ((x : X) → length (f x) ≡ per) → length (flat_map f xs) ≡ length xs * per
length-flat_map_each f per [] each = omega arith
length-flat_map_each f per (x ∷ xs) each =
    omega (arith, length-append (f x) (flat_map f xs), each x, length-flat_map_each f per xs each)

-- ---- the number of cells

pub length-pairs_in : (plan : Plan) (scan : ScanPlan) → length (pairs_in plan scan) ≡ length plan.products * length scan.baselines
length-pairs_in plan scan =
    length-flat_map_each (λ (p : ProductPlan). map (placed_pair scan p) scan.baselines) (length scan.baselines) plan.products
    (λ p. length-map scan.baselines (placed_pair scan p))

-- a pair for each of the epoch's groups
pub length-pairs_in_epoch : (plan : Plan) (scan : ScanPlan) (e : EpochPlan) → IsEpochOf plan scan e
    → length (pairs_in plan scan) ≡ e.products * e.baselines
length-pairs_in_epoch plan scan e is =
    length-pairs_in plan scan ∙ sym (ap (λ n. n * e.baselines) is.products ∙ ap (λ n. length plan.products * n) is.baselines)

length-cells_in_epoch : (z : Samples) (pairs : List Pair) (samples : ℕ) (e : EpochPlan) → length (cells_in_epoch z pairs samples e) ≡ length pairs * e.lags
length-cells_in_epoch z pairs samples e =
    length-flat_map_each (pair_cells z samples e.lags e.from e.to) e.lags pairs
    (λ pair. length-map-range_with_len (λ i. cell_in z pair samples (lag_of e.lags i) e.from e.to) 0 e.lags)

-- ---- the cells

-- equal cells at each lag
pub map-range-same : (f g : ℕ → Cell) (n : ℕ) → ((i : ℕ) → i < n → f i ≡ g i) → map f (range_with_len 0 n) ≡ map g (range_with_len 0 n)
map-range-same f g n same =
    fill_by_all g (map f (range_with_len 0 n)) n no_cell (length-map-range_with_len f 0 n)
    (λ i less. get_or-map-range_with_len f 0 n i i no_cell less (omega arith) ∙ same i less)

-- the value of the first station's channel at one of the epoch's samples
pub planed-here : (plan : Plan) (scan : ScanPlan) (e : EpochPlan) (planes : List (List PlanesFields)) (files : Files) (station chan n : ℕ)
    → IsEpochOf plan scan e → length planes ≡ length scan.stays → AreReached plan scan e planes files → e.from ≤ n → n < e.to
    → planed planes (place_in scan station) chan (pos n) ≡ rotated plan files scan station chan (pos n)
planed-here plan scan e planes files station chan n is count are begun under =
    let in_reach = inside-epoch e.from e.to e.lags scan.samples n is.of_plan.lags.some is.inside begun under in
    planed-place plan files scan planes station chan (pos n) count (λ place stay at. are place chan stay (pos n) at in_reach.begun in_reach.under)

-- and of the second's a lag away from it
pub planed-lagged : (plan : Plan) (scan : ScanPlan) (e : EpochPlan) (planes : List (List PlanesFields)) (files : Files) (station chan n i : ℕ)
    → IsEpochOf plan scan e → length planes ≡ length scan.stays → AreReached plan scan e planes files → e.from ≤ n → n < e.to
    → i < e.lags → is_inside (pos n +ℤ lag_of e.lags i) scan.samples ≡ true
    → planed planes (place_in scan station) chan (pos n +ℤ lag_of e.lags i) ≡ rotated plan files scan station chan (pos n +ℤ lag_of e.lags i)
planed-lagged plan scan e planes files station chan n i is count are begun under lag inside =
    let in_reach = inside-lagged e.from e.to e.lags scan.samples n i is.of_plan.lags.even begun under lag inside in
    planed-place plan files scan planes station chan (pos n +ℤ lag_of e.lags i) count
    (λ place stay at. are place chan stay (pos n +ℤ lag_of e.lags i) at in_reach.begun in_reach.under)

cell-reached : (plan : Plan) (scan : ScanPlan) (e : EpochPlan) (planes : List (List PlanesFields)) (files : Files) (p : ProductPlan) (b : BaselinePlan) (i : ℕ)
    → IsEpochOf plan scan e → length planes ≡ length scan.stays → AreReached plan scan e planes files → i < e.lags
    → cell_in (planed planes) (placed_pair scan p b) scan.samples (lag_of e.lags i) e.from e.to
    ≡ cell_in (rotated plan files scan) (pair_of p b) scan.samples (lag_of e.lags i) e.from e.to
cell-reached plan scan e planes files p b i is count are lag =
    cell_in-values (planed planes) (rotated plan files scan) (placed_pair scan p b) (pair_of p b) scan.samples (lag_of e.lags i) e.from e.to
    (λ n begun under. planed-here plan scan e planes files b.a p.x n is count are begun under)
    (λ n begun under inside. planed-lagged plan scan e planes files b.b p.y n i is count are begun under lag inside)

pair_cells-reached : (plan : Plan) (scan : ScanPlan) (e : EpochPlan) (planes : List (List PlanesFields)) (files : Files) (p : ProductPlan) (b : BaselinePlan)
    → IsEpochOf plan scan e → length planes ≡ length scan.stays → AreReached plan scan e planes files
    → pair_cells (planed planes) scan.samples e.lags e.from e.to (placed_pair scan p b)
    ≡ lag_cells plan (rotated plan files scan) scan e.from e.to p b
pair_cells-reached plan scan e planes files p b is count are =
    let z : Samples = rotated plan files scan in
    map-range-same (λ i. cell_in (planed planes) (placed_pair scan p b) scan.samples (lag_of e.lags i) e.from e.to)
    (λ i. cell_in z (pair_of p b) scan.samples (lag_of e.lags i) e.from e.to) e.lags
    (λ i less. cell-reached plan scan e planes files p b i is count are less)
    ∙ ap (λ lags. pair_cells z scan.samples lags e.from e.to (pair_of p b)) is.lags

-- the cells of all pairs, from planes that hold what the epoch's lags reach
range_cells-reached : (plan : Plan) (scan : ScanPlan) (e : EpochPlan) (planes : List (List PlanesFields)) (files : Files)
    → IsEpochOf plan scan e → length planes ≡ length scan.stays → AreReached plan scan e planes files
    → cells_in_epoch (planed planes) (pairs_in plan scan) scan.samples e ≡ range_cells plan (rotated plan files scan) scan e.from e.to
range_cells-reached plan scan e planes files is count are =
    let z : Samples = rotated plan files scan in
    let cells : Pair → List Cell = pair_cells (planed planes) scan.samples e.lags e.from e.to in
    let pairs : ProductPlan → List Pair = λ p. map (placed_pair scan p) scan.baselines in
    flat_map-flat_map cells pairs plan.products
    ∙ flat_map-same (λ p. flat_map cells (pairs p)) (baseline_cells plan z scan e.from e.to) plan.products
    (λ p. flat_map-map cells (placed_pair scan p) scan.baselines
    ∙ flat_map-same (λ b. cells (placed_pair scan p b)) (lag_cells plan z scan e.from e.to p) scan.baselines
    (λ b. pair_cells-reached plan scan e planes files p b is count are))

-- ---- the sums of an epoch

-- a pair for each group
groups-held : (told : Option Files) (plan : Plan) (scan : ScanPlan) (e : EpochPlan) (v : EpochValues) → IsOfScan plan scan e → HoldsEpoch told plan scan e v
    → length v.pairs.items ≡ e.products * e.baselines
groups-held told plan scan e v is holds = ap length holds.pairs ∙ length-pairs_in_epoch plan scan e is.of_scan

-- a cell for each lag of each group
count-summed : (told : Option Files) (plan : Plan) (scan : ScanPlan) (e : EpochPlan) (v : EpochValues) (cells : List Cell) → IsOfScan plan scan e → HoldsEpoch told plan scan e v
    → cells ≡ cells_in_epoch (planed v.planes) v.pairs.items scan.samples e → length cells ≡ cell_count e
count-summed told plan scan e v cells is holds are =
    ap length are ∙ length-cells_in_epoch (planed v.planes) v.pairs.items scan.samples e ∙ ap (λ (n : ℕ). n * e.lags) (groups-held told plan scan e v is holds)

-- the cells of the definition
cells-summed : (told : Option Files) (plan : Plan) (scan : ScanPlan) (e : EpochPlan) (v : EpochValues) (cells : List Cell) → IsOfScan plan scan e → HoldsEpoch told plan scan e v
    → cells ≡ cells_in_epoch (planed v.planes) v.pairs.items scan.samples e → WhereTold told (λ (files : Files). cells ≡ epoch_sums plan files e)
cells-summed told plan scan e v cells is holds are =
    WhereTold-weaker told (AreReached plan scan e v.planes) (λ (files : Files). cells ≡ epoch_sums plan files e)
    (λ files reached.
    are ∙ ap (λ pairs. cells_in_epoch (planed v.planes) pairs scan.samples e) holds.pairs
    ∙ range_cells-reached plan scan e v.planes files is.of_scan holds.count reached
    ∙ sym (ap (λ (o : Option ScanPlan). option_map_or (λ (s : ScanPlan). range_cells plan (rotated plan files s) s e.from e.to) o []) is.there))
    holds.values

-- an epoch can be summed from values that it is held by
pub held-summed : (told : Option Files) (plan : Plan) (scan held : ScanPlan) (e : EpochPlan) (v : EpochValues) (pairs : List Pair) (piece : ℕ)
    → IsOfScan plan scan e → IsOfScan plan held e → HoldsEpoch told plan held e v → pairs ≡ v.pairs.items
    → 64 ≤ piece → piece ≤ 4194304 → IsSummed pairs scan.samples e piece
held-summed told plan scan held e v pairs piece of_scan is holds pairs_are some most = record {
  epoch = of_scan.of_scan.of_plan;
  inside = of_scan.of_scan.inside;
  scan = of_scan.ranges.samples;
  groups = ap length pairs_are ∙ groups-held told plan held e v is holds;
  some = some;
  most = most;
}

-- and the sums are those of the definition, whichever way its scan is found
pub summed-held : (told : Option Files) (plan : Plan) (scan held : ScanPlan) (e : EpochPlan) (v : EpochValues) (pairs : List Pair) (sums : EpochCells)
    → IsOfScan plan scan e → pairs ≡ v.pairs.items → sums.cells ≡ cells_in_epoch (planed v.planes) pairs scan.samples e
    → IsOfScan plan held e → HoldsEpoch told plan held e v → AreSums told plan e sums
summed-held told plan scan held e v pairs sums of_scan pairs_are cells is holds =
    let one : scan ≡ held = scan-one plan scan held e of_scan is in
    let are : sums.cells ≡ cells_in_epoch (planed v.planes) v.pairs.items held.samples e =
    cells ∙ ap (λ (l : List Pair). cells_in_epoch (planed v.planes) l scan.samples e) pairs_are
    ∙ ap (λ (x : ScanPlan). cells_in_epoch (planed v.planes) v.pairs.items x.samples e) one in
    record {
      count = count-summed told plan held e v sums.cells is holds are;
      cells = cells-summed told plan held e v sums.cells is holds are;
    }
