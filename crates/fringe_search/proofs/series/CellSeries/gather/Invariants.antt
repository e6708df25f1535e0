use Rattle.std.proofs.Common.{◌≡◌, ◌<◌, ℕ, length, slice_index_or}
use Rattle.fringe_search.specs.Layout.{no_cell, cell_at}
use Rattle.fringe_search.proofs.series.CellSeries.gather.Given as goal

abbrev pub invariant-loop-m : goal.invariant-loop-m
invariant-loop-m l = record {
  len : length l.cells ≡ length l.initial.cells;
  gathered : (k : ℕ) → k < l.m → slice_index_or l.cells k no_cell ≡ cell_at l.self k l.lag;
}
