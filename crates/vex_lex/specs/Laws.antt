-- What follows from the grammar for every text.
use Rattle.std.specs.Prelude.{◌≡◌, ◌⊎◌, ℕ, ◌+◌, ◌<◌, ◌≤◌, List, [], ◌∷◌, ◌++◌, length, drop, All}
use Rattle.vex_lex.specs.declared.token.TokenKind.TheVariants.{Word, Quoted}
use Rattle.vex_lex.specs.declared.token.Token.{Token}
use Rattle.vex_lex.specs.declared.fault.LexKind.{LexKind}
use Rattle.vex_lex.specs.Bytes.{HasByte}
use Rattle.vex_lex.specs.Shapes.{span}
use Rattle.vex_lex.specs.Grammar.{Lexes, Breaks}

-- A text has at most one list of tokens.
abbrev pub HasOneReading : List ℕ → Type 0
HasOneReading text = (tokens others : List Token) → Lexes text tokens → Lexes text others → tokens ≡ others

-- A text breaks a rule at most at one place, and there one rule.
abbrev pub HasOneBreak : List ℕ → Type 0
HasOneBreak text =
    (kind other : LexKind) (place elsewhere : ℕ) → Breaks text kind place → Breaks text other elsewhere → (kind ≡ other) × (place ≡ elsewhere)

-- A text that has tokens breaks no rule.
abbrev pub DoesNotBoth : List ℕ → Type 0
DoesNotBoth text = (tokens : List Token) (kind : LexKind) (place : ℕ) → Lexes text tokens → ¬ Breaks text kind place

-- A text has tokens or breaks a rule.
abbrev pub HasTokensOrBreak : List ℕ → Type 0
HasTokensOrBreak text =
    ((tokens : List Token) × Lexes text tokens) ⊎ ((kind : LexKind) × (place : ℕ) × Breaks text kind place)

-- The bytes from a place on, put together from the gaps, the tokens between them, and what is left.
abbrev pub put_together : List ℕ → ℕ → List Token → List ℕ
put_together text from [] = drop from text
put_together text from (token ∷ tokens) =
    span text from token.at
    ++ (span text token.at (token.at + token.len) ++ put_together text (token.at + token.len) tokens)

-- The tokens have a byte or more, are within the text, and with the gaps between them are the text.
pub record CoverText (text : List ℕ) (tokens : List Token) : Type 0 where
  pub some : All (λ token. 0 < token.len) tokens
  pub within : All (λ token. token.at + token.len ≤ length text) tokens
  pub together : put_together text 0 tokens ≡ text

-- A word does not begin with a quotation mark, and a quoted text does: so the first byte of a value's text tells which it is.
pub record BeginsAsItsKind (text : List ℕ) (token : Token) : Type 0 where
  pub word : token.kind ≡ Word → ¬ HasByte 34 text token.at
  pub quoted : token.kind ≡ Quoted → HasByte 34 text token.at
