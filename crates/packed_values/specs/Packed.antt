-- Rows of values, by codes or by words.
use Rattle.std.specs.Prelude.{List, map}
use Rattle.corr_model.specs.Cell.{Value}
use Rattle.value_codes.specs.Codes.{value_of}
use Rattle.packed_values.specs.Words.{word_value}
use Rattle.packed_values.specs.declared.row.Packed.{Packed}
use Rattle.packed_values.specs.declared.row.Packed.TheVariants.{Codes, Words}

-- the values of a row, one a sample
abbrev pub values_of : Packed → List Value
values_of (Codes codes) = map value_of codes.now
values_of (Words row) = map word_value row.words.now
