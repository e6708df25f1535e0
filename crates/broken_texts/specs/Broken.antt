-- Broken texts.
use Rattle.std.specs.Prelude.{ℕ, ◌+◌, ◌%◌, List, take, slice_index, slice_set}
use Rattle.broken_texts.specs.declared.way.Way.{Way}
use Rattle.broken_texts.specs.declared.way.Way.TheVariants.{Cut, Zero, Full, More}

-- the byte in the place of one
abbrev pub other : Way → ℕ → ℕ
other Cut byte = byte
other Zero byte = 0
other Full byte = 255
other More byte = (byte + 1) % 256

-- the text broken at a place: the bytes before it, or the text with another byte there
abbrev pub broken : Way → List ℕ → ℕ → List ℕ
broken Cut text place = take place text
broken Zero text place = slice_set text place (other Zero (slice_index text place))
broken Full text place = slice_set text place (other Full (slice_index text place))
broken More text place = slice_set text place (other More (slice_index text place))
