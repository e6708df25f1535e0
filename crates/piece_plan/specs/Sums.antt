-- What the parts of a range add up to.
use Rattle.std.specs.Prelude.{ℕ, ℤ, List, [], ◌∷◌}
use Rattle.corr_model.specs.declared.cell.Cell.{Cell}
use Rattle.corr_model.specs.declared.cell.Pair.{Pair}
use Rattle.corr_model.specs.Cell.{Samples, no_cell, cell_plus, cell_in}
use Rattle.piece_plan.specs.Parts.{Range}

-- the sum of a cell over ranges
abbrev pub cell_over : Samples → Pair → ℕ → ℤ → List Range → Cell
cell_over z pair samples lag [] = no_cell
cell_over z pair samples lag (r ∷ ranges) =
    cell_plus (cell_in z pair samples lag r.from r.to) (cell_over z pair samples lag ranges)
