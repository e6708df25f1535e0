-- The text of a body, and the cells that it stands for.
use Rattle.std.specs.Prelude.{ℕ, ◌+◌, ◌*◌, ◌/◌, List, length, map, flat_map}
use Rattle.std.specs.Int.{w64, cast_signed}
use Rattle.std.specs.List.{range_with_len}
use Rattle.byteorder.specs.Endian.{little_from}
use Rattle.corr_model.specs.declared.cell.Cell.{Cell}
use Rattle.corr_model.specs.Records.{cell_text}

-- the cells by group and then by lag, each its sums and its count
abbrev pub body_text : List Cell → List ℕ
body_text cells = flat_map cell_text cells

-- the cell whose three numbers stand from a place on
abbrev pub cell_from : List ℕ → ℕ → Cell
cell_from bytes at = record {
  re = cast_signed w64 (little_from at 8 bytes);
  im = cast_signed w64 (little_from (at + 8) 8 bytes);
  count = little_from (at + 16) 8 bytes;
}

-- so many cells, one after another from a place on
abbrev pub cells_at : List ℕ → ℕ → ℕ → List Cell
cells_at bytes at n = map (λ (i : ℕ). cell_from bytes (at + 24 * i)) (range_with_len 0 n)

-- the cells that a body stands for
abbrev pub body_cells : List ℕ → List Cell
body_cells bytes = cells_at bytes 0 (length bytes / 24)
