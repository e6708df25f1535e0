-- What pairs of levelled values add up to.
use Rattle.std.specs.Prelude.{IfSome}
use Rattle.std.proofs.Common.{◌≡◌, ℕ, ◌-◌, ◌<◌, ℤ, pos, ◌+ℤ◌, List, Some, None, sym, subst, arith, All}
use Rattle.std.proofs.lemmas.List.FromFn.{length-map-range_with_len, get_or-map-range_with_len}
use Rattle.corr_model.specs.declared.cell.Cell.{Cell}
use Rattle.corr_model.specs.declared.cell.Pair.{Pair}
use Rattle.corr_model.specs.Cell.{Value, Samples, product_at, cell_in, AreSmall, IsProduct}
use Rattle.corr_model.specs.Lags.{lag_of}
use Rattle.corr_model.proofs.CellLemmas.{within_abs, product_at-small, cell_in-grown, IsGrown}
use Rattle.station_stream.specs.Stream.{AreLevelled}
use Rattle.epoch_run.specs.Sums.{pair_cells}
use Rattle.epoch_run.specs.Levelled.{AllLevelled}

-- levelled values are small
AreSmall-of : (v : Value) → IfSome v AreLevelled → IfSome v AreSmall
AreSmall-of (Some a) h = (within_abs a.0 15 h.0, within_abs a.1 15 h.1)
AreSmall-of None h = h

pub IsProduct-product_at : (z : Samples) (pair : Pair) (samples : ℕ) (lag : ℤ) (n : ℕ) → AllLevelled z → IsProduct (product_at z pair samples lag n)
IsProduct-product_at z pair samples lag n all =
    product_at-small z pair samples lag n (AreSmall-of (z pair.a pair.x (pos n)) (all pair.a pair.x (pos n))) (AreSmall-of (z pair.b pair.y (pos n +ℤ lag)) (all pair.b pair.y (pos n +ℤ lag)))

-- the cell of a range
pub IsGrown-cell_in : (z : Samples) (pair : Pair) (samples : ℕ) (lag : ℤ) (from to : ℕ) → AllLevelled z
    → IsGrown (cell_in z pair samples lag from to) (to - from)
IsGrown-cell_in z pair samples lag from to all =
    cell_in-grown z pair samples lag from to (λ n. AreSmall-of (z pair.a pair.x n) (all pair.a pair.x n)) (λ n. AreSmall-of (z pair.b pair.y n) (all pair.b pair.y n))

-- each cell of a pair
pub IsGrown-pair_cells : (z : Samples) (pair : Pair) (samples lags from to : ℕ) (cells : List Cell) → AllLevelled z
    → cells ≡ pair_cells z samples lags from to pair
    → All (λ c. IsGrown c (to - from)) cells
IsGrown-pair_cells z pair samples lags from to cells all is =
    subst (λ (cs : List Cell). All (λ c. IsGrown c (to - from)) cs) (sym is) each
  where
    each : All (λ c. IsGrown c (to - from)) (pair_cells z samples lags from to pair)
    each k d h =
        let f : ℕ → Cell = λ i. cell_in z pair samples (lag_of lags i) from to in
        let inside : k < lags = omega (arith, h, length-map-range_with_len f 0 lags) in
        subst (λ (c : Cell). IsGrown c (to - from)) (sym (get_or-map-range_with_len f 0 lags k k d inside (omega arith)))
        (IsGrown-cell_in z pair samples (lag_of lags k) from to all)
