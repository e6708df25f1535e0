-- The front of a text, as gaps and tokens.
use Rattle.std.proofs.Common.{◌≡◌, ℕ, ◌+◌, ◌-◌, List, [], ◌∷◌, ◌++◌, subst, arith}
use Rattle.vex_lex.specs.declared.token.TokenKind.{TokenKind}
use Rattle.vex_lex.specs.declared.token.Token.{Token}
use Rattle.vex_lex.specs.Grammar.{IsGap, IsToken, LexesBetween}
use Rattle.vex_lex.proofs.Gaps.{IsGap-append}
use Rattle.vex_lex.proofs.TokenShapes.{IsToken-within}

-- the token between two places
abbrev pub token_of : TokenKind → ℕ → ℕ → Token
token_of kind from to = record { kind = kind; at = from; len = to - from }

-- A front goes on with a gap.
pub LexesBetween-gap : (text : List ℕ) (from : ℕ) (tokens : List Token) (mid to : ℕ) → LexesBetween text from tokens mid → IsGap text mid to → LexesBetween text from tokens to
LexesBetween-gap text from [] mid to front gap = IsGap-append text front gap
LexesBetween-gap text from (token ∷ tokens) mid to front gap =
    (front.0, front.1, LexesBetween-gap text (token.at + token.len) tokens mid to front.2 gap)

-- A front goes on with a token and a gap.
pub LexesBetween-token : (text : List ℕ) (from : ℕ) (tokens : List Token) (kind : TokenKind) (at end to : ℕ) → LexesBetween text from tokens at → IsToken text kind at end → IsGap text end to → LexesBetween text from (tokens ++ token_of kind at end ∷ []) to
LexesBetween-token text from [] kind at end to front token gap =
    let within = IsToken-within text kind at end token in
    let span_end : end ≡ at + (end - at) = omega (arith, within.some) in
    (front, subst (λ place. IsToken text kind at place) span_end token, subst (λ place. IsGap text place to) span_end gap)
LexesBetween-token text from (first ∷ tokens) kind at end to front token gap =
    (front.0, front.1, LexesBetween-token text (first.at + first.len) tokens kind at end to front.2 token gap)
