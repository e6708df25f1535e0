-- The texts of pieces.
use Rattle.std.specs.Prelude.{ℕ, List, flat_map, decimal}
use Rattle.std.specs.Fmt.{signed_decimal}
use Rattle.sink_text.specs.declared.piece.Piece.{Piece}
use Rattle.sink_text.specs.declared.piece.Piece.TheVariants.{Text, Bytes, Number, Signed, Wide}

abbrev pub piece_text : Piece → List ℕ
piece_text (Text text) = text.now
piece_text (Bytes bytes) = bytes.now
piece_text (Number n) = decimal n
piece_text (Signed n) = signed_decimal n
piece_text (Wide n) = decimal n

abbrev pub pieces_text : List Piece → List ℕ
pieces_text pieces = flat_map piece_text pieces
