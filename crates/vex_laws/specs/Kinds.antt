-- The kinds of a text's tokens, and their bytes.
use Rattle.std.specs.Prelude.{◌≡◌, ℕ, ◌+◌, true, false, List, All}
use Rattle.vex_lex.specs.declared.token.TokenKind.TheVariants.{Word, Quoted}
use Rattle.vex_lex.specs.declared.token.Token.{Token}
use Rattle.vex_lex.specs.Shapes.{span}
use Rattle.vex_lex.specs.Grammar.{Lexes}
use Rattle.vex_schedule.specs.Values.{is_word}

-- A schedule takes the bytes of a word for a word, and those of a quoted text for none.
pub record IsWordByKind (text : List ℕ) (token : Token) : Type 0 where
  pub word : token.kind ≡ Word → is_word (span text token.at (token.at + token.len)) ≡ true
  pub quoted : token.kind ≡ Quoted → is_word (span text token.at (token.at + token.len)) ≡ false

-- It does so for each token of the text.
abbrev pub TellsWords : List ℕ → Type 0
TellsWords text = (tokens : List Token) → Lexes text tokens → All (IsWordByKind text) tokens
