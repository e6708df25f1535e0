-- The tokens of a VEX text: a text is gap, token, gap, token, .., gap.
use Rattle.std.specs.Prelude.{◌≡◌, ◌⊎◌, ℕ, ◌+◌, List, [], ◌∷◌, length, Vec, Result, MatchResult}
use Rattle.std.specs.declared.alloc.Global.{Global}
use Rattle.vex_lex.specs.declared.token.TokenKind.{TokenKind}
use Rattle.vex_lex.specs.declared.token.TokenKind.TheVariants.{Word, Quoted, Literal, Equals, Colon, Semicolon}
use Rattle.vex_lex.specs.declared.token.Token.{Token}
use Rattle.vex_lex.specs.declared.fault.LexKind.{LexKind}
use Rattle.vex_lex.specs.declared.fault.LexKind.TheVariants.{OpenQuote, OpenLiteral, BadByte, Memory}
use Rattle.vex_lex.specs.declared.fault.LexFault.{LexFault}
use Rattle.vex_lex.specs.Bytes.{IsWhite, IsAt, HasByte}
use Rattle.vex_lex.specs.Shapes.{IsComment, IsSign, IsQuoted, OpensLiteral, IsLiteral, IsWord, IsBrokenWord}

-- A gap is a row of white bytes and comments, perhaps none, from its first place to the place behind
-- it.
pub data IsGap (text : List ℕ) : ℕ → ℕ → Type 0 where
  none : {at : ℕ} → IsGap text at at
  white : {from to : ℕ} → IsAt IsWhite text from → IsGap text (from + 1) to → IsGap text from to
  comment : {from end to : ℕ} → IsComment text from end → IsGap text end to → IsGap text from to

-- A token of each kind has its shape.
abbrev pub IsToken : List ℕ → TokenKind → ℕ → ℕ → Type 0
IsToken text Word from to = IsWord text from to
IsToken text Quoted from to = IsQuoted text from to
IsToken text Literal from to = IsLiteral text from to
IsToken text Equals from to = IsSign 61 text from to
IsToken text Colon from to = IsSign 58 text from to
IsToken text Semicolon from to = IsSign 59 text from to

-- Between the two places the text is gap, token, gap, token, .., gap, with these tokens.
abbrev pub LexesBetween : List ℕ → ℕ → List Token → ℕ → Type 0
LexesBetween text from [] to = IsGap text from to
LexesBetween text from (token ∷ tokens) to =
    IsGap text from token.at
    × IsToken text token.kind token.at (token.at + token.len)
    × LexesBetween text (token.at + token.len) tokens to

-- The whole text has these tokens.
abbrev pub Lexes : List ℕ → List Token → Type 0
Lexes text tokens = LexesBetween text 0 tokens (length text)

-- What would begin at the first place as a token breaks a rule at the second: a quoted text or a
-- literal that is opened there is none, or what stands there as a word has a control character.
abbrev pub BreaksFrom : List ℕ → LexKind → ℕ → ℕ → Type 0
BreaksFrom text OpenQuote from place =
    (place ≡ from) × HasByte 34 text from × ((to : ℕ) → ¬ IsQuoted text from to)
BreaksFrom text OpenLiteral from place =
    (place ≡ from) × OpensLiteral text from × ((to : ℕ) → ¬ IsLiteral text from to)
BreaksFrom text BadByte from place = IsBrokenWord text from place
BreaksFrom text Memory from place = ⊥

-- The text breaks a rule at the place: its front is gaps and tokens, and what begins behind it breaks
-- the rule.
pub record Breaks (text : List ℕ) (kind : LexKind) (place : ℕ) : Type 0 where
  pub tokens : List Token
  pub from : ℕ
  pub front : LexesBetween text 0 tokens from
  pub broken : BreaksFrom text kind from place

-- Want of memory, which is at no place of the text.
abbrev pub out_of_memory : LexFault
out_of_memory = record { kind = Memory; at = 0 }

-- The fault of the text, or want of memory.
abbrev pub IsFaultOf : List ℕ → LexFault → Type 0
IsFaultOf text fault = (fault ≡ out_of_memory) ⊎ Breaks text fault.kind fault.at

-- The answer is these tokens, or want of memory.
abbrev pub GivesTokens : Result (Vec Token Global) LexFault → List Token → Type 0
GivesTokens answer tokens = MatchResult answer (λ found. found.items ≡ tokens) (λ fault. fault ≡ out_of_memory)

-- The answer is this fault, or want of memory.
abbrev pub GivesFault : Result (Vec Token Global) LexFault → LexFault → Type 0
GivesFault answer fault = MatchResult answer (λ _. ⊥) (λ found. (found ≡ out_of_memory) ⊎ (found ≡ fault))
