-- The values that planes hold.
use Rattle.std.specs.Prelude.{List, map, ⊤}
use Rattle.corr_model.specs.Cell.{Value}
use Rattle.value_codes.specs.Codes.{value_of}
use Rattle.packed_values.specs.Words.{AreWords, word_value}
use Rattle.bit_planes.specs.declared.held.Held.{Held}
use Rattle.bit_planes.specs.declared.held.Held.TheVariants.{Codes, Words}

-- the values, by codes or by words
abbrev pub values_in : Held → List Value
values_in (Codes codes) = map value_of codes.items
values_in (Words words) = map word_value words.items

-- words stand for values
abbrev pub AreHeld : Held → Type 0
AreHeld (Codes codes) = ⊤
AreHeld (Words words) = AreWords words.items
