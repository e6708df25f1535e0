-- The value at any place of a row.
use Rattle.std.specs.Prelude.{ℤ, pos, negsuc, List, slice_index_or, None}
use Rattle.corr_model.specs.Cell.{Value}

-- none before the first one and past the end
abbrev pub value_from : List Value → ℤ → Value
value_from values (pos k) = slice_index_or values k None
value_from values (negsuc k) = None
