-- What begins at a place is one token, or breaks one rule.
use Rattle.std.proofs.Common.{◌≡◌, ◌≢◌, ℕ, ◌+◌, ◌<◌, List, length, get_or, sym, ◌∙◌, refl, subst, ⊎_elim, inl, inr, arith}
use Rattle.vex_lex.specs.declared.token.TokenKind.{TokenKind}
use Rattle.vex_lex.specs.declared.token.TokenKind.TheVariants.{Word, Quoted, Literal, Equals, Colon, Semicolon}
use Rattle.vex_lex.specs.declared.fault.LexKind.{LexKind}
use Rattle.vex_lex.specs.declared.fault.LexKind.TheVariants.{OpenQuote, OpenLiteral, BadByte, Memory}
use Rattle.vex_lex.specs.Bytes.{IsSeparator, EndsWord, IsControl, IsAt, HasByte}
use Rattle.vex_lex.specs.First.{IsFirst}
use Rattle.vex_lex.specs.Shapes.{EndsWordAt, StopsWord, OpensNone, IsWord, IsBrokenWord, ClosesQuoted, IsQuoted, IsLiteral, OpensLiteral, ClosesLiteral, span}
use Rattle.vex_lex.specs.Grammar.{IsToken, BreaksFrom}
use Rattle.std.proofs.str.Laws.{order}
use Rattle.vex_lex.proofs.Literals.{OpensLiteral-within}
use Rattle.vex_lex.proofs.Firsts.{IsFirst-one}
use Rattle.vex_lex.proofs.TokenShapes.{StopsGap, StopsGap-byte, StopsGap-word, OpensLiteral-byte}

-- What the first byte of a token is, by its kind.
abbrev FirstByte : TokenKind → List ℕ → ℕ → Type 0
FirstByte Word text from = OpensNone text from × (get_or text from 0 ≢ 61) × (get_or text from 0 ≢ 58) × (get_or text from 0 ≢ 59)
FirstByte Quoted text from = HasByte 34 text from
FirstByte Literal text from = OpensLiteral text from × (get_or text from 0 ≡ 115)
FirstByte Equals text from = get_or text from 0 ≡ 61
FirstByte Colon text from = get_or text from 0 ≡ 58
FirstByte Semicolon text from = get_or text from 0 ≡ 59

-- The first byte of a word is within the text.
IsWord-inside : (text : List ℕ) (from to : ℕ) → IsWord text from to → from < length text
IsWord-inside text from to word = ⊎_elim (λ at_end. let some = word.some in omega arith) (λ byte. let some = word.some in omega arith) word.ends

IsToken-first : (text : List ℕ) (kind : TokenKind) (from to : ℕ) → IsToken text kind from to → FirstByte kind text from
IsToken-first text Word from to word =
    let inside = IsWord-inside text from to word in
    let apart = word.first.before.none from word.some (omega arith) in (
      word.opens,
      λ same. apart (inl (inr (inside, inl (inr (inl same))))),
      λ same. apart (inl (inr (inside, inl (inr (inr (inl same)))))),
      λ same. apart (inl (inr (inside, inl (inr (inr (inr same)))))),
    )
IsToken-first text Quoted from to quoted = quoted.opens
IsToken-first text Literal from to literal = (literal.opens, OpensLiteral-byte text from literal.opens)
IsToken-first text Equals from to sign = sign.sign.1
IsToken-first text Colon from to sign = sign.sign.1
IsToken-first text Semicolon from to sign = sign.sign.1

-- The first byte decides the kind.
FirstByte-one : (kind other : TokenKind) (text : List ℕ) (from : ℕ) → FirstByte kind text from → FirstByte other text from → kind ≡ other
FirstByte-one Word Word text from a b = refl
FirstByte-one Quoted Quoted text from a b = refl
FirstByte-one Literal Literal text from a b = refl
FirstByte-one Equals Equals text from a b = refl
FirstByte-one Colon Colon text from a b = refl
FirstByte-one Semicolon Semicolon text from a b = refl
FirstByte-one Word Quoted text from a b = absurd (a.0.no_quoted b)
FirstByte-one Quoted Word text from a b = absurd (b.0.no_quoted a)
FirstByte-one Word Literal text from a b = absurd (a.0.no_literal b.0)
FirstByte-one Literal Word text from a b = absurd (b.0.no_literal a.0)
FirstByte-one Word Equals text from a b = absurd (a.1 b)
FirstByte-one Word Colon text from a b = absurd (a.2 b)
FirstByte-one Word Semicolon text from a b = absurd (a.3 b)
FirstByte-one Equals Word text from a b = absurd (b.1 a)
FirstByte-one Colon Word text from a b = absurd (b.2 a)
FirstByte-one Semicolon Word text from a b = absurd (b.3 a)
FirstByte-one _ _ text from a b = absurd (omega arith)

-- Two quoted texts of one place are one.
IsQuoted-one : (text : List ℕ) (from a b : ℕ) → IsQuoted text from a → IsQuoted text from b → a ≡ b
IsQuoted-one text from a b quoted_a quoted_b =
    let same = IsFirst-one (ClosesQuoted text) (from + 1) quoted_a.last quoted_b.last quoted_a.closes quoted_b.closes in
    omega (arith, quoted_a.end, quoted_b.end, same)

-- Two literals of one place are one.
IsLiteral-one : (text : List ℕ) (from a b : ℕ) → IsLiteral text from a → IsLiteral text from b → a ≡ b
IsLiteral-one text from a b literal_a literal_b =
    let same_tag = IsFirst-one (HasByte 41 text) (from + 14) literal_a.tag_end literal_b.tag_end literal_a.tag.ends literal_b.tag.ends in
    let closes = subst (λ (end : ℕ). IsFirst (ClosesLiteral (span text (from + 14) end) text) (end + 1) literal_a.last) same_tag literal_a.closes in
    let same = IsFirst-one (ClosesLiteral (span text (from + 14) literal_b.tag_end) text) (literal_b.tag_end + 1) literal_a.last literal_b.last closes literal_b.closes in
    omega (arith, literal_a.end, literal_b.end, same, same_tag)

-- Two tokens of one kind and one place are one.
IsToken-end : (text : List ℕ) (kind : TokenKind) (from a b : ℕ) → IsToken text kind from a → IsToken text kind from b → a ≡ b
IsToken-end text Word from a b word_a word_b = IsFirst-one (StopsWord text) from a b word_a.first word_b.first
IsToken-end text Quoted from a b quoted_a quoted_b = IsQuoted-one text from a b quoted_a quoted_b
IsToken-end text Literal from a b literal_a literal_b = IsLiteral-one text from a b literal_a literal_b
IsToken-end text Equals from a b sign_a sign_b = omega (arith, sign_a.end, sign_b.end)
IsToken-end text Colon from a b sign_a sign_b = omega (arith, sign_a.end, sign_b.end)
IsToken-end text Semicolon from a b sign_a sign_b = omega (arith, sign_a.end, sign_b.end)

-- Two tokens of one place are one.
pub IsToken-one : (text : List ℕ) (kind other : TokenKind) (from a b : ℕ) → IsToken text kind from a → IsToken text other from b → (kind ≡ other) × (a ≡ b)
IsToken-one text kind other from a b token_a token_b =
    let same = FirstByte-one kind other text from (IsToken-first text kind from a token_a) (IsToken-first text other from b token_b) in
    (same, IsToken-end text other from a b (subst (λ k. IsToken text k from a) same token_a) token_b)

-- No byte that ends a word is a control character.
EndsWord-no_control : (byte : ℕ) → EndsWord byte → ¬ IsControl byte
EndsWord-no_control byte ends control = grind arith

-- No control character ends a word.
control_is_no_end : (text : List ℕ) (place : ℕ) → EndsWordAt text place → ¬ IsAt IsControl text place
control_is_no_end text place ends control =
    ⊎_elim
    (λ at_end. let inside = control.0 in omega arith)
    (λ byte. EndsWord-no_control (get_or text place 0) byte.1 control.1)
    ends

-- Where the first that stops a word is a control character, no gap goes on.
IsBrokenWord-stops : (text : List ℕ) (from place : ℕ) → IsBrokenWord text from place → StopsGap text from
IsBrokenWord-stops text from place broken =
    ⊎_elim
    (λ less. StopsGap-word text from place less broken.first)
    (λ at_most.
    let same : place ≡ from = let reached = broken.first.before.reached in omega arith in
    let control : IsControl (get_or text from 0) = (subst (IsAt IsControl text) same broken.control).1 in
    StopsGap-byte text from
    (λ white. EndsWord-no_control (get_or text from 0) (inl (inl white)) control)
    (λ star. EndsWord-no_control (get_or text from 0) (inr star) control))
    (order from place)

-- A byte that separates begins no broken word.
IsBrokenWord-apart : (text : List ℕ) (from place : ℕ) → IsBrokenWord text from place → ¬ IsSeparator (get_or text from 0)
IsBrokenWord-apart text from place broken separates =
    ⊎_elim
    (λ less. let inside : from < length text = let control = broken.control.0 in omega arith in broken.first.before.none from less (omega arith) (inl (inr (inside, inl separates))))
    (λ at_most.
    let same : place ≡ from = let reached = broken.first.before.reached in omega arith in
    let control : IsControl (get_or text from 0) = (subst (IsAt IsControl text) same broken.control).1 in
    EndsWord-no_control (get_or text from 0) (inl separates) control)
    (order from place)

-- What breaks a rule is no gap.
pub BreaksFrom-stops : (text : List ℕ) (kind : LexKind) (from place : ℕ) → BreaksFrom text kind from place → StopsGap text from
BreaksFrom-stops text OpenQuote from place broken = let byte = broken.1.1 in StopsGap-byte text from (λ white. ⊎_elim (λ h. omega arith) (λ h. omega arith) white) (omega arith)
BreaksFrom-stops text OpenLiteral from place broken = let byte = OpensLiteral-byte text from broken.1 in StopsGap-byte text from (λ white. ⊎_elim (λ h. omega arith) (λ h. omega arith) white) (omega arith)
BreaksFrom-stops text BadByte from place broken = IsBrokenWord-stops text from place broken
BreaksFrom-stops text Memory from place broken = absurd broken

-- What breaks a rule is within the text.
pub BreaksFrom-inside : (text : List ℕ) (kind : LexKind) (from place : ℕ) → BreaksFrom text kind from place → from < length text
BreaksFrom-inside text OpenQuote from place broken = broken.1.0
BreaksFrom-inside text OpenLiteral from place broken = let within = OpensLiteral-within text from broken.1 in omega arith
BreaksFrom-inside text BadByte from place broken = let reached = broken.first.before.reached in let control = broken.control.0 in omega arith
BreaksFrom-inside text Memory from place broken = absurd broken

-- What breaks a rule is no token.
pub BreaksFrom-no_token : (text : List ℕ) (kind : LexKind) (from place : ℕ) → BreaksFrom text kind from place → (token : TokenKind) (to : ℕ) → ¬ IsToken text token from to
BreaksFrom-no_token text OpenQuote from place broken Word to here = here.opens.no_quoted broken.1
BreaksFrom-no_token text OpenQuote from place broken Quoted to here = broken.2 to here
BreaksFrom-no_token text OpenQuote from place broken Literal to here = let byte = OpensLiteral-byte text from here.opens in let quote = broken.1.1 in omega arith
BreaksFrom-no_token text OpenQuote from place broken Equals to here = let quote = broken.1.1 in let sign = here.sign.1 in omega arith
BreaksFrom-no_token text OpenQuote from place broken Colon to here = let quote = broken.1.1 in let sign = here.sign.1 in omega arith
BreaksFrom-no_token text OpenQuote from place broken Semicolon to here = let quote = broken.1.1 in let sign = here.sign.1 in omega arith
BreaksFrom-no_token text OpenLiteral from place broken Word to here = here.opens.no_literal broken.1
BreaksFrom-no_token text OpenLiteral from place broken Quoted to here = let byte = OpensLiteral-byte text from broken.1 in let quote = here.opens.1 in omega arith
BreaksFrom-no_token text OpenLiteral from place broken Literal to here = broken.2 to here
BreaksFrom-no_token text OpenLiteral from place broken Equals to here = let byte = OpensLiteral-byte text from broken.1 in let sign = here.sign.1 in omega arith
BreaksFrom-no_token text OpenLiteral from place broken Colon to here = let byte = OpensLiteral-byte text from broken.1 in let sign = here.sign.1 in omega arith
BreaksFrom-no_token text OpenLiteral from place broken Semicolon to here = let byte = OpensLiteral-byte text from broken.1 in let sign = here.sign.1 in omega arith
BreaksFrom-no_token text BadByte from place broken Word to here =
    let same = IsFirst-one (StopsWord text) from to place here.first broken.first in
    control_is_no_end text place (subst (EndsWordAt text) same here.ends) broken.control
BreaksFrom-no_token text BadByte from place broken Quoted to here = broken.opens.no_quoted here.opens
BreaksFrom-no_token text BadByte from place broken Literal to here = broken.opens.no_literal here.opens
BreaksFrom-no_token text BadByte from place broken Equals to here = IsBrokenWord-apart text from place broken (inr (inl here.sign.1))
BreaksFrom-no_token text BadByte from place broken Colon to here = IsBrokenWord-apart text from place broken (inr (inr (inl here.sign.1)))
BreaksFrom-no_token text BadByte from place broken Semicolon to here = IsBrokenWord-apart text from place broken (inr (inr (inr here.sign.1)))
BreaksFrom-no_token text Memory from place broken token to here = absurd broken

-- One rule is broken at a place, at one place.
pub BreaksFrom-one : (text : List ℕ) (kind other : LexKind) (from place elsewhere : ℕ) → BreaksFrom text kind from place → BreaksFrom text other from elsewhere → (kind ≡ other) × (place ≡ elsewhere)
BreaksFrom-one text OpenQuote OpenQuote from place elsewhere a b = (refl, a.0 ∙ sym b.0)
BreaksFrom-one text OpenLiteral OpenLiteral from place elsewhere a b = (refl, a.0 ∙ sym b.0)
BreaksFrom-one text BadByte BadByte from place elsewhere a b = (refl, IsFirst-one (StopsWord text) from place elsewhere a.first b.first)
BreaksFrom-one text OpenQuote OpenLiteral from place elsewhere a b = let byte = OpensLiteral-byte text from b.1 in let quote = a.1.1 in absurd (omega arith)
BreaksFrom-one text OpenLiteral OpenQuote from place elsewhere a b = let byte = OpensLiteral-byte text from a.1 in let quote = b.1.1 in absurd (omega arith)
BreaksFrom-one text OpenQuote BadByte from place elsewhere a b = absurd (b.opens.no_quoted a.1)
BreaksFrom-one text BadByte OpenQuote from place elsewhere a b = absurd (a.opens.no_quoted b.1)
BreaksFrom-one text OpenLiteral BadByte from place elsewhere a b = absurd (b.opens.no_literal a.1)
BreaksFrom-one text BadByte OpenLiteral from place elsewhere a b = absurd (a.opens.no_literal b.1)
BreaksFrom-one text Memory other from place elsewhere a b = absurd a
BreaksFrom-one text OpenQuote Memory from place elsewhere a b = absurd b
BreaksFrom-one text OpenLiteral Memory from place elsewhere a b = absurd b
BreaksFrom-one text BadByte Memory from place elsewhere a b = absurd b
