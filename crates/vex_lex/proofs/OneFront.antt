-- A text has one front of gaps and tokens up to a place at which nothing goes on.
use Rattle.std.proofs.Common.{◌≡◌, ℕ, ◌+◌, List, [], ◌∷◌, length, sym, refl, subst, ⊎_elim, arith}
use Rattle.vex_lex.specs.declared.token.TokenKind.{TokenKind}
use Rattle.vex_lex.specs.declared.token.Token.{Token}
use Rattle.vex_lex.specs.declared.fault.LexKind.{LexKind}
use Rattle.vex_lex.specs.Bytes.{IsWhite, IsAt}
use Rattle.vex_lex.specs.Shapes.{IsComment, EndsComment}
use Rattle.vex_lex.specs.Grammar.{IsGap, IsToken, LexesBetween, BreaksFrom}
use Rattle.vex_lex.specs.Grammar.IsGap.{none, white, comment}
use Rattle.vex_lex.proofs.Firsts.{IsFirst-one}
use Rattle.vex_lex.proofs.TokenShapes.{StopsGap, IsToken-within, IsToken-stops}
use Rattle.vex_lex.proofs.OneToken.{IsToken-one, BreaksFrom-stops, BreaksFrom-no_token}

-- A white byte begins no comment.
white_or_comment : (text : List ℕ) (at end : ℕ) → IsAt IsWhite text at → ¬ IsComment text at end
white_or_comment text at end here comments = let star = comments.opens.1 in ⊎_elim (λ h. omega arith) (λ h. omega arith) here.1

-- From a place on there is one gap up to a place at which no gap goes on.
IsGap-one : (text : List ℕ) {from a b : ℕ} → IsGap text from a → StopsGap text a → IsGap text from b → StopsGap text b → a ≡ b
IsGap-one text none stops_a none stops_b = refl
IsGap-one text none stops_a (white here gap) stops_b = absurd (stops_a.no_white here)
IsGap-one text none stops_a (comment here gap) stops_b = absurd (stops_a.no_comment here.opens)
IsGap-one text (white here gap) stops_a none stops_b = absurd (stops_b.no_white here)
IsGap-one text (comment here gap) stops_a none stops_b = absurd (stops_b.no_comment here.opens)
IsGap-one text (white here gap) stops_a (white there other) stops_b = IsGap-one text gap stops_a other stops_b
IsGap-one text (white here gap) stops_a (comment {end = end} there other) stops_b = absurd (white_or_comment text _ end here there)
IsGap-one text (comment {end = end} here gap) stops_a (white there other) stops_b = absurd (white_or_comment text _ end there here)
IsGap-one text (comment {from = from} {end = end} {to = to} here gap) stops_a (comment {end = end'} {to = to'} there other) stops_b =
    let same = IsFirst-one (EndsComment text) from end' end there.ends here.ends in
    IsGap-one text gap stops_a (subst (λ place. IsGap text place to') same other) stops_b

-- Nothing goes on at the place: no gap and no token.
pub record StopsFront (text : List ℕ) (place : ℕ) : Type 0 where
  pub no_gap : StopsGap text place
  pub no_token : (kind : TokenKind) (to : ℕ) → ¬ IsToken text kind place to

pub StopsFront-end : (text : List ℕ) → StopsFront text (length text)
StopsFront-end text = record {
  no_gap = record { no_white = λ here. let inside = here.0 in omega arith; no_comment = λ here. let inside = here.0 in omega arith };
  no_token = λ kind to token. let within = IsToken-within text kind (length text) to token in omega (arith, within.some, within.within);
}

pub StopsFront-break : (text : List ℕ) (kind : LexKind) (from place : ℕ) → BreaksFrom text kind from place → StopsFront text from
StopsFront-break text kind from place broken = record {
  no_gap = BreaksFrom-stops text kind from place broken;
  no_token = BreaksFrom-no_token text kind from place broken;
}

-- Two tokens of one kind and one span are one.
token_same : (token other : Token) → token.kind ≡ other.kind → token.at ≡ other.at → token.at + token.len ≡ other.at + other.len → token ≡ other
token_same token other same_kind same_at same_end = let same_len : token.len ≡ other.len = omega arith in λ i. record { kind = same_kind i; at = same_at i; len = same_len i }

pub LexesBetween-one : (text : List ℕ) (from : ℕ) (tokens others : List Token) (a b : ℕ) → LexesBetween text from tokens a → StopsFront text a → LexesBetween text from others b → StopsFront text b → (tokens ≡ others) × (a ≡ b)
LexesBetween-one text from [] [] a b front_a stops_a front_b stops_b = (refl, IsGap-one text front_a stops_a.no_gap front_b stops_b.no_gap)
LexesBetween-one text from [] (other ∷ others) a b front_a stops_a front_b stops_b =
    let same = IsGap-one text front_a stops_a.no_gap front_b.0 (IsToken-stops text other.kind other.at (other.at + other.len) front_b.1) in
    absurd (stops_a.no_token other.kind (other.at + other.len) (subst (λ place. IsToken text other.kind place (other.at + other.len)) (sym same) front_b.1))
LexesBetween-one text from (token ∷ tokens) [] a b front_a stops_a front_b stops_b =
    let same = IsGap-one text front_b stops_b.no_gap front_a.0 (IsToken-stops text token.kind token.at (token.at + token.len) front_a.1) in
    absurd (stops_b.no_token token.kind (token.at + token.len) (subst (λ place. IsToken text token.kind place (token.at + token.len)) (sym same) front_a.1))
LexesBetween-one text from (token ∷ tokens) (other ∷ others) a b front_a stops_a front_b stops_b =
    let same_at = IsGap-one text front_a.0 (IsToken-stops text token.kind token.at (token.at + token.len) front_a.1) front_b.0 (IsToken-stops text other.kind other.at (other.at + other.len) front_b.1) in
    let same = IsToken-one text token.kind other.kind other.at (token.at + token.len) (other.at + other.len) (subst (λ place. IsToken text token.kind place (token.at + token.len)) same_at front_a.1) front_b.1 in
    let rest = LexesBetween-one text (other.at + other.len) tokens others a b (subst (λ place. LexesBetween text place tokens a) same.1 front_a.2) stops_a front_b.2 stops_b in
    let same_token = token_same token other same.0 same_at same.1 in
    ((λ i. same_token i ∷ rest.0 i), rest.1)
