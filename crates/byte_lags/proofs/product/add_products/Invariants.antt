-- The cells so far have their sums, the others are as they were, and the window is that of the next cell.
use Rattle.std.proofs.Common.{◌≡◌, ◌<◌, ◌≤◌, ◌+◌, ◌^◌, ℕ, ℤ, length, slice_index_or}
use Rattle.byte_lags.specs.Streams.{AreWithin, IsAdded, IsBiased, window}
use Rattle.corr_model.specs.Cell.{no_cell}
use Rattle.byte_lags.proofs.product.add_products.Given as goal

abbrev pub invariant-loop-i : goal.invariant-loop-i
invariant-loop-i l = record {
  len : length l.cells ≡ length l.fn.cells;
  added : (x y : ℕ → ℤ) → IsBiased l.a.bias x (length l.a.bytes.now) l.a.bytes.now → IsBiased l.b.bias y (length l.b.bytes.now) l.b.bytes.now
      → (i : ℕ) → i < l.i
      → IsAdded l.weights x y i (length l.a.bytes.now) (slice_index_or l.fn.cells i no_cell) (slice_index_or l.cells i no_cell);
  rest : (i : ℕ) → l.i ≤ i → slice_index_or l.cells i no_cell ≡ slice_index_or l.fn.cells i no_cell;
  window : l.sliding ≡ window l.b.bytes.now l.i (length l.a.bytes.now);
  within : (most : ℕ) → AreWithin most l.fn.cells → AreWithin (most + 2 ^ 34) l.cells;
}
