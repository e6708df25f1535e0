-- Tokens of a text.
use Rattle.std.proofs.Common.{◌≡◌, ◌≢◌, ℕ, ◌+◌, ◌-◌, ◌<◌, ◌≤◌, List, length, drop, get_or, ap, sym, ◌∙◌, ⊎_elim, inl, inr, arith, length-drop, length-take-le, get_or-drop, add-zero}
use Rattle.vex_lex.specs.declared.token.TokenKind.{TokenKind}
use Rattle.vex_lex.specs.declared.token.TokenKind.TheVariants.{Word, Quoted, Literal, Equals, Colon, Semicolon}
use Rattle.vex_lex.specs.Bytes.{IsWhite, IsAt, HasByte}
use Rattle.vex_lex.specs.First.{IsFirst}
use Rattle.vex_lex.specs.Shapes.{EndsWordAt, StopsWord, IsQuoted, IsLiteral, OpensLiteral, span}
use Rattle.vex_lex.specs.Grammar.{IsToken}
use Rattle.vex_lex.proofs.Literals.{ClosesLiteral-within}

-- A word ends within the text.
pub EndsWordAt-within : (text : List ℕ) (place : ℕ) → EndsWordAt text place → place ≤ length text
EndsWordAt-within text place ends = ⊎_elim (λ at_end. omega arith) (λ byte. omega arith) ends

-- A token has at least one byte, and is within the text.
pub record IsWithin (text : List ℕ) (from to : ℕ) : Type 0 where
  pub some : from < to
  pub within : to ≤ length text

IsWithin-quoted : (text : List ℕ) (from to : ℕ) → IsQuoted text from to → IsWithin text from to
IsWithin-quoted text from to quoted = record {
  some = omega (arith, quoted.end, quoted.closes.before.reached);
  within = omega (arith, quoted.end, quoted.closes.here.0.0);
}

IsWithin-literal : (text : List ℕ) (from to : ℕ) → IsLiteral text from to → IsWithin text from to
IsWithin-literal text from to literal =
    let inside : literal.tag_end < length text = literal.tag.ends.here.0 in
    let tag_at : from + 14 ≤ literal.tag_end = literal.tag.ends.before.reached in
    let behind : literal.tag_end + 1 ≤ literal.last = literal.closes.before.reached in
    let tag_len : length (span text (from + 14) literal.tag_end) ≡ literal.tag_end - (from + 14) =
    length-take-le (literal.tag_end - (from + 14)) (drop (from + 14) text) (omega (arith, length-drop (from + 14) text)) in
    let closed : literal.last + 13 + length (span text (from + 14) literal.tag_end) ≤ length text =
    ClosesLiteral-within (span text (from + 14) literal.tag_end) text literal.last literal.closes.here in
    record { some = omega (arith, literal.end); within = omega (arith, literal.end) }

pub IsToken-within : (text : List ℕ) (kind : TokenKind) (from to : ℕ) → IsToken text kind from to → IsWithin text from to
IsToken-within text Word from to word = record { some = word.some; within = EndsWordAt-within text to word.ends }
IsToken-within text Quoted from to quoted = IsWithin-quoted text from to quoted
IsToken-within text Literal from to literal = IsWithin-literal text from to literal
IsToken-within text Equals from to sign = record { some = omega (arith, sign.end); within = omega (arith, sign.end, sign.sign.0) }
IsToken-within text Colon from to sign = record { some = omega (arith, sign.end); within = omega (arith, sign.end, sign.sign.0) }
IsToken-within text Semicolon from to sign = record { some = omega (arith, sign.end); within = omega (arith, sign.end, sign.sign.0) }

-- No gap goes on at the place.
pub record StopsGap (text : List ℕ) (place : ℕ) : Type 0 where
  pub no_white : ¬ IsAt IsWhite text place
  pub no_comment : ¬ HasByte 42 text place

-- A byte that begins neither.
pub StopsGap-byte : (text : List ℕ) (place : ℕ) → ¬ IsWhite (get_or text place 0) → get_or text place 0 ≢ 42 → StopsGap text place
StopsGap-byte text place not_white not_star = record { no_white = λ here. not_white here.1; no_comment = λ here. not_star here.1 }

-- The first byte of a literal is `s`.
pub OpensLiteral-byte : (text : List ℕ) (place : ℕ) → OpensLiteral text place → get_or text place 0 ≡ 115
OpensLiteral-byte text place has =
    ap (λ i. get_or text i 0) (sym (add-zero place))
    ∙ sym (get_or-drop place text 0 0)
    ∙ ap (λ l. get_or l 0 0) has.1

-- A byte that stops words is no gap's, where it is not the first of a word.
pub StopsGap-word : (text : List ℕ) (from to : ℕ) → from < to → IsFirst (StopsWord text) from to → StopsGap text from
StopsGap-word text from to some first = record {
  no_white = λ here. first.before.none from some (omega arith) (inl (inr (here.0, inl (inl here.1))));
  no_comment = λ here. first.before.none from some (omega arith) (inl (inr (here.0, inr here.1)));
}

-- A token begins behind a gap.
pub IsToken-stops : (text : List ℕ) (kind : TokenKind) (from to : ℕ) → IsToken text kind from to → StopsGap text from
IsToken-stops text Word from to word = StopsGap-word text from to word.some word.first
IsToken-stops text Quoted from to quoted = let byte = quoted.opens.1 in StopsGap-byte text from (λ white. ⊎_elim (λ h. omega arith) (λ h. omega arith) white) (omega arith)
IsToken-stops text Literal from to literal = let byte = OpensLiteral-byte text from literal.opens in StopsGap-byte text from (λ white. ⊎_elim (λ h. omega arith) (λ h. omega arith) white) (omega arith)
IsToken-stops text Equals from to sign = let byte = sign.sign.1 in StopsGap-byte text from (λ white. ⊎_elim (λ h. omega arith) (λ h. omega arith) white) (omega arith)
IsToken-stops text Colon from to sign = let byte = sign.sign.1 in StopsGap-byte text from (λ white. ⊎_elim (λ h. omega arith) (λ h. omega arith) white) (omega arith)
IsToken-stops text Semicolon from to sign = let byte = sign.sign.1 in StopsGap-byte text from (λ white. ⊎_elim (λ h. omega arith) (λ h. omega arith) white) (omega arith)
