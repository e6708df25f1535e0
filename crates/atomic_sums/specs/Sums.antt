-- The sums of a closed board, and the cells that they stand for.
use Rattle.std.specs.Prelude.{ℕ, ◌+◌, ◌*◌, ◌/◌, pos, ◌-ℤ◌, List, map, length, slice_index}
use Rattle.std.specs.List.{sum_by, range_with_len}
use Rattle.corr_model.specs.declared.cell.Cell.{Cell}
use Rattle.piece_claim.specs.declared.sizes.Sizes.{Sizes}
use Rattle.piece_claim.specs.State.{Piece, pieces, sums, amount_at}

-- the total of each sum word, and the board's number of pieces
pub record Totals : Type 0 where
  pub totals : List ℕ
  pub pieces : ℕ

-- the totals of the amounts of these pieces
abbrev pub totals_of : Sizes → List Piece → Totals
totals_of k ps = record { totals = map (λ w. sum_by (amount_at k w) ps) (range_with_len 0 (sums k)); pieces = pieces k }

-- cells, and the number of pieces whose pairs they count
pub record EpochCells : Type 0 where
  pub cells : List Cell
  pub pieces : ℕ

-- cell i has three totals in a row; the bias was added to the first two and not to the count
abbrev pub cell_at : ℕ → List ℕ → ℕ → Cell
cell_at bias totals i = record {
  re = pos (slice_index totals (3 * i)) -ℤ pos bias;
  im = pos (slice_index totals (3 * i + 1)) -ℤ pos bias;
  count = slice_index totals (3 * i + 2);
}

abbrev pub unbiased : ℕ → Totals → EpochCells
unbiased bias s = record { cells = map (cell_at bias s.totals) (range_with_len 0 (length s.totals / 3)); pieces = s.pieces }
