-- The shapes of a VEX text's comments and tokens, from their first place to the place behind them.
use Rattle.std.specs.Prelude.{◌≡◌, ◌≢◌, ◌⊎◌, ℕ, ◌+◌, ◌-◌, ◌<◌, ◌≤◌, List, ◌++◌, length, take, drop, slice_index, codes}
use Rattle.vex_lex.specs.Bytes.{IsSeparator, EndsWord, IsControl, IsAt, HasByte, HasBytes}
use Rattle.vex_lex.specs.First.{IsFirst}

-- A comment ends before a line feed or at the text's end.
abbrev pub EndsComment : List ℕ → ℕ → Type 0
EndsComment text place = (place ≡ length text) ⊎ HasByte 10 text place

-- A comment is `*` and the bytes up to its first end.
pub record IsComment (text : List ℕ) (from to : ℕ) : Type 0 where
  pub opens : HasByte 42 text from
  pub ends : IsFirst (EndsComment text) from to

-- One of the bytes `=`, `:` and `;` is a token by itself.
pub record IsSign (byte : ℕ) (text : List ℕ) (from to : ℕ) : Type 0 where
  pub sign : HasByte byte text from
  pub end : to ≡ from + 1

-- A quoted text is closed by a `"` with no backslash directly before it.
abbrev pub ClosesQuoted : List ℕ → ℕ → Type 0
ClosesQuoted text place = HasByte 34 text place × (slice_index text (place - 1) ≢ 92)

-- A quoted text is `"` and the bytes up to the first `"` that closes it, both included.
pub record IsQuoted (text : List ℕ) (from to : ℕ) : Type 0 where
  pub opens : HasByte 34 text from
  pub last : ℕ
  pub closes : IsFirst (ClosesQuoted text) (from + 1) last
  pub end : to ≡ last + 1

-- These bytes open a literal.
abbrev pub OpensLiteral : List ℕ → ℕ → Type 0
OpensLiteral = HasBytes (codes "start_literal(")

-- These bytes close the literal of the tag.
abbrev pub ClosesLiteral : List ℕ → List ℕ → ℕ → Type 0
ClosesLiteral tag = HasBytes (codes "end_literal(" ++ tag ++ codes ")")

-- The bytes of the text from the first place up to the second.
abbrev pub span : List ℕ → ℕ → ℕ → List ℕ
span text from to = take (to - from) (drop from text)

-- A tag is the bytes up to the first `)`, perhaps none, and has no separator.
pub record IsTag (text : List ℕ) (from to : ℕ) : Type 0 where
  pub ends : IsFirst (HasByte 41 text) from to
  pub plain : (place : ℕ) → place < to → from ≤ place → ¬ IsSeparator (slice_index text place)

-- A literal is `start_literal(`, a tag, `)` and the bytes up to the first later `end_literal(` with
-- the same tag and `)`, all of them included.
pub record IsLiteral (text : List ℕ) (from to : ℕ) : Type 0 where
  pub opens : OpensLiteral text from
  pub tag_end : ℕ
  pub tag : IsTag text (from + 14) tag_end
  pub last : ℕ
  pub closes : IsFirst (ClosesLiteral (span text (from + 14) tag_end) text) (tag_end + 1) last
  pub end : to ≡ last + 13 + (tag_end - (from + 14))

-- A word ends at the text's end or before a byte that no word goes on through.
abbrev pub EndsWordAt : List ℕ → ℕ → Type 0
EndsWordAt text place = (place ≡ length text) ⊎ IsAt EndsWord text place

-- What a word cannot go on through: its end, or a control character.
abbrev pub StopsWord : List ℕ → ℕ → Type 0
StopsWord text place = EndsWordAt text place ⊎ IsAt IsControl text place

-- Neither a quoted text nor a literal begins at the place.
pub record OpensNone (text : List ℕ) (place : ℕ) : Type 0 where
  pub no_quoted : ¬ HasByte 34 text place
  pub no_literal : ¬ OpensLiteral text place

-- A word is the bytes, at least one, up to the first that stops it, where that is its end.
pub record IsWord (text : List ℕ) (from to : ℕ) : Type 0 where
  pub opens : OpensNone text from
  pub some : from < to
  pub first : IsFirst (StopsWord text) from to
  pub ends : EndsWordAt text to

-- The first that stops the word, or that stands in its place, is a control character.
pub record IsBrokenWord (text : List ℕ) (from place : ℕ) : Type 0 where
  pub opens : OpensNone text from
  pub first : IsFirst (StopsWord text) from place
  pub control : IsAt IsControl text place
