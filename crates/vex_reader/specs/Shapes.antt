-- The shapes of the statements of a VEX text.
use Rattle.std.specs.Prelude.{ℕ, ◌+◌, Bool, true, false, ◌||◌, ◌&&◌, not, List, [], ◌∷◌, map, None, Some, codes, bytes_eq, nat_eq, if◌then◌else◌}
use Rattle.std.specs.List.{starts_with, slice_split, list_all}
use Rattle.vex_lex.specs.declared.token.TokenKind.{TokenKind}
use Rattle.vex_lex.specs.declared.token.TokenKind.TheVariants.{Word, Quoted, Literal, Equals, Colon, Semicolon}
use Rattle.vex_lex.specs.declared.token.Token.{Token}
use Rattle.vex_lex.specs.Shapes.{span}
use Rattle.vex_reader.specs.declared.shape.ItemKind.TheVariants.{Def, Scan}
use Rattle.vex_reader.specs.declared.shape.Shape.{Shape}
use Rattle.vex_reader.specs.declared.shape.Shape.TheVariants.{Blank, Block, Begin, End, Entry, Other, Bad}

-- A token as its kind and its bytes.
abbrev pub Mark : Type 0
Mark = TokenKind × List ℕ

-- The kind and the bytes of a token of a text.
abbrev pub mark_of : List ℕ → Token → Mark
mark_of text token = (token.kind, span text token.at (token.at + token.len))

-- A block's name begins with `$`.
abbrev pub is_block_name : List ℕ → Bool
is_block_name word = starts_with nat_eq word (codes "$")

-- The words of the defs and scans, which have one use each.
abbrev pub is_keyword : List ℕ → Bool
is_keyword word =
    bytes_eq word (codes "def") || bytes_eq word (codes "scan") || bytes_eq word (codes "enddef") || bytes_eq word (codes "endscan")

-- What stands in values: words, quoted texts, and the colons between the values.
abbrev pub stands_in_values : TokenKind → Bool
stands_in_values Word = true
stands_in_values Quoted = true
stands_in_values Colon = true
stands_in_values _ = false

-- Whether two kinds are the same.
abbrev pub is_sign : TokenKind → TokenKind → Bool
is_sign Word Word = true
is_sign Quoted Quoted = true
is_sign Literal Literal = true
is_sign Equals Equals = true
is_sign Colon Colon = true
is_sign Semicolon Semicolon = true
is_sign _ _ = false

-- The values, each as its words and quoted texts.
abbrev pub values_of : List Mark → List (List (List ℕ))
values_of marks = map (map (λ mark. mark.1)) (slice_split (λ mark. is_sign Colon mark.0) marks)

-- What begins with this word and has no shape of its own is passed over, but not where the word is a keyword or the name of a block.
abbrev pub unshaped : List ℕ → Shape
unshaped word = if is_keyword word || is_block_name word then Bad else Other

-- A statement of one word.
abbrev pub lone_shape : List ℕ → Shape
lone_shape word =
    if is_block_name word then Block word
    else if bytes_eq word (codes "enddef") then End Def
    else if bytes_eq word (codes "endscan") then End Scan
    else unshaped word

-- A statement of two words.
abbrev pub item_shape : List ℕ → List ℕ → Shape
item_shape word name =
    if bytes_eq word (codes "def") then Begin Def name
    else if bytes_eq word (codes "scan") then Begin Scan name
    else unshaped word

-- Words and quoted texts, with colons between the values.
abbrev pub are_values : List Mark → Bool
are_values marks = list_all (λ mark. stands_in_values mark.0) marks

-- A word, `=` and values are an assignment, but not where the word is a keyword or `ref`.
abbrev pub is_assignment : List ℕ → List Mark → Bool
is_assignment word values = not (is_keyword word || bytes_eq word (codes "ref")) && are_values values

-- `ref`, the name of a block, `=` and values are a ref.
abbrev pub is_ref : List ℕ → List ℕ → List Mark → Bool
is_ref word target values = bytes_eq word (codes "ref") && is_block_name target && are_values values

-- A statement of a word, `=` and what is behind it.
abbrev pub assignment_shape : ℕ → List ℕ → List Mark → Shape
assignment_shape at word values =
    if is_assignment word values
    then Entry (record { at = at; key = word; target = None; values = values_of values })
    else unshaped word

-- A statement of two words, `=` and what is behind it.
abbrev pub ref_shape : ℕ → List ℕ → List ℕ → List Mark → Shape
ref_shape at word target values =
    if is_ref word target values
    then Entry (record { at = at; key = word; target = Some target; values = values_of values })
    else unshaped word

-- A statement by its first word and what is behind it.
abbrev pub word_shape : ℕ → List ℕ → List Mark → Shape
word_shape at word [] = lone_shape word
word_shape at word ((Word, name) ∷ []) = item_shape word name
word_shape at word ((Word, target) ∷ (Equals, _) ∷ values) = ref_shape at word target values
word_shape at word ((Equals, _) ∷ values) = assignment_shape at word values
word_shape at word _ = unshaped word

-- The shape of the statement of these tokens, at a place of the text.
abbrev pub shape_of : ℕ → List Mark → Shape
shape_of at [] = Blank
shape_of at ((Literal, _) ∷ []) = Blank
shape_of at ((Word, word) ∷ marks) = word_shape at word marks
shape_of at _ = Other
