-- The cells so far have their pairs, and the others are as they were.
use Rattle.std.proofs.Common.{◌≡◌, ◌<◌, ◌≤◌, ◌+◌, ◌^◌, ℕ, length, slice_index_or}
use Rattle.byte_lags.specs.Streams.{AreWithin}
use Rattle.corr_model.specs.Cell.{no_cell}
use Rattle.byte_streams.specs.Rows.{row_len, row_value}
use Rattle.block_lags.specs.Cells.{lag_cell}
use Rattle.block_lags.specs.Counts.{IsCounted}
use Rattle.block_lags.proofs.counts.add_counts.Given as goal

abbrev pub invariant-loop-i : goal.invariant-loop-i
invariant-loop-i l = record {
  len : length l.cells ≡ length l.fn.cells;
  counted : (i : ℕ) → i < l.i
      → IsCounted ((lag_cell (row_value l.first) (row_value l.second) i (row_len l.first)).count) (slice_index_or l.fn.cells i no_cell) (slice_index_or l.cells i no_cell);
  rest : (i : ℕ) → l.i ≤ i → slice_index_or l.cells i no_cell ≡ slice_index_or l.fn.cells i no_cell;
  within : (most : ℕ) → AreWithin most l.fn.cells → AreWithin (most + 2 ^ 34) l.cells;
}
