-- Where the fault of a VEX text stands.
use Rattle.std.specs.Prelude.{◌≡◌, ◌≢◌, ◌⊎◌, ℕ, ◌<◌, List, [], ◌∷◌, ◌++◌, length}
use Rattle.vex_lex.specs.declared.token.TokenKind.TheVariants.{Semicolon}
use Rattle.vex_lex.specs.declared.token.Token.{Token}
use Rattle.vex_lex.specs.declared.fault.LexKind.{LexKind}
use Rattle.vex_lex.specs.declared.fault.LexKind.TheVariants as lex
use Rattle.vex_lex.specs.Bytes.{IsControl, IsAt, HasByte}
use Rattle.vex_lex.specs.Shapes.{OpensLiteral}
use Rattle.vex_lex.specs.Grammar.{Lexes}
use Rattle.vex_reader.specs.declared.fault.VexKind.{VexKind}
use Rattle.vex_reader.specs.declared.fault.VexKind.TheVariants.{Lex, Revision, Statement, OpenDef, DoubleDef, DoubleScan, Outside, Memory}
use Rattle.vex_reader.specs.declared.fault.VexFault.{VexFault}
use Rattle.vex_reader.specs.Grammar.{IsVexFaultOf}

-- The last of some tokens is a semicolon.
pub record EndWithSemicolon (tokens : List Token) : Type 0 where
  pub front : List Token
  pub last : Token
  pub cut : tokens ≡ front ++ last ∷ []
  pub sign : last.kind ≡ Semicolon

-- A statement with a token or more begins at the place: no semicolon, but the text's first token or the one behind a semicolon.
pub record BeginsStatement (text : List ℕ) (at : ℕ) : Type 0 where
  pub tokens : List Token
  pub lexes : Lexes text tokens
  pub front : List Token
  pub first : Token
  pub behind : List Token
  pub cut : tokens ≡ front ++ first ∷ behind
  pub begins : (front ≡ []) ⊎ EndWithSemicolon front
  pub some : first.kind ≢ Semicolon
  pub place : first.at ≡ at
  pub within : at < length text

-- What stands where a rule of the tokens is broken.
abbrev pub IsLexPlace : List ℕ → LexKind → ℕ → Type 0
IsLexPlace text lex.OpenQuote at = HasByte 34 text at
IsLexPlace text lex.OpenLiteral at = OpensLiteral text at
IsLexPlace text lex.BadByte at = IsAt IsControl text at
IsLexPlace text lex.Memory at = ⊥

-- What stands at the place of a fault. The revision and the end of a def or scan can be missed at the text's end.
abbrev pub IsPlace : List ℕ → VexKind → ℕ → Type 0
IsPlace text (Lex kind) at = IsLexPlace text kind at
IsPlace text Revision at = BeginsStatement text at ⊎ (at ≡ length text)
IsPlace text Statement at = BeginsStatement text at
IsPlace text OpenDef at = BeginsStatement text at ⊎ (at ≡ length text)
IsPlace text DoubleDef at = BeginsStatement text at
IsPlace text DoubleScan at = BeginsStatement text at
IsPlace text Outside at = BeginsStatement text at
IsPlace text Memory at = ⊥

-- The fault of a text is at its place.
abbrev pub HasPlacedFault : List ℕ → Type 0
HasPlacedFault text = (fault : VexFault) → IsVexFaultOf text fault → IsPlace text fault.kind fault.at
