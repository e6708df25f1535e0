-- The laws of the grammar.
use Rattle.std.proofs.Common.{◌≡◌, ℕ, ◌+◌, ◌-◌, ◌<◌, ◌≤◌, List, [], ◌∷◌, ◌++◌, length, drop, ap, sym, ◌∙◌, refl, subst, ⊎_elim, inl, inr, arith, take-append-drop}
use Rattle.std.specs.Prelude.{All, Result, Ok, Err, IfOk, IfErr, MatchResult, ◌⊎◌}
use Rattle.std.proofs.lemmas.List.{drop-drop}
use Rattle.std.proofs.lemmas.List.Elements.{All-nil, All-cons}
use Rattle.vex_lex.specs.declared.token.TokenKind.{TokenKind}
use Rattle.vex_lex.specs.declared.token.Token.{Token}
use Rattle.vex_lex.specs.declared.fault.LexFault.{LexFault}
use Rattle.vex_lex.specs.Shapes.{span}
use Rattle.vex_lex.specs.Grammar.{IsToken, LexesBetween, BreaksFrom, Lexes, Breaks, out_of_memory, IsFaultOf}
use Rattle.vex_lex.specs.Laws.{HasOneReading, HasOneBreak, DoesNotBoth, put_together, CoverText, BeginsAsItsKind}
use Rattle.vex_lex.proofs.Gaps.{IsGap-forward}
use Rattle.vex_lex.proofs.TokenShapes.{IsToken-within}
use Rattle.vex_lex.proofs.OneToken.{BreaksFrom-inside, BreaksFrom-one}
use Rattle.vex_lex.proofs.OneFront.{StopsFront-end, StopsFront-break, LexesBetween-one}

pub one_reading : (text : List ℕ) → HasOneReading text
one_reading text tokens others lexes_a lexes_b =
    (LexesBetween-one text 0 tokens others (length text) (length text) lexes_a (StopsFront-end text) lexes_b (StopsFront-end text)).0

pub not_both : (text : List ℕ) → DoesNotBoth text
not_both text tokens kind place lexes breaks =
    let same = LexesBetween-one text 0 tokens breaks.tokens (length text) breaks.from lexes (StopsFront-end text) breaks.front (StopsFront-break text kind breaks.from place breaks.broken) in
    let inside = BreaksFrom-inside text kind breaks.from place breaks.broken in
    let at_end = same.1 in
    omega arith

pub one_break : (text : List ℕ) → HasOneBreak text
one_break text kind other place elsewhere breaks_a breaks_b =
    let same = LexesBetween-one text 0 breaks_a.tokens breaks_b.tokens breaks_a.from breaks_b.from breaks_a.front (StopsFront-break text kind breaks_a.from place breaks_a.broken) breaks_b.front (StopsFront-break text other breaks_b.from elsewhere breaks_b.broken) in
    BreaksFrom-one text kind other breaks_b.from place elsewhere (subst (λ from. BreaksFrom text kind from place) same.1 breaks_a.broken) breaks_b.broken

-- A span and what is behind it.
span_and_rest : (text : List ℕ) (from to : ℕ) → from ≤ to → span text from to ++ drop to text ≡ drop from text
span_and_rest text from to forward =
    let behind : drop to text ≡ drop (to - from) (drop from text) =
    ap (λ place. drop place text) (let end : to ≡ from + (to - from) = omega arith in end) ∙ sym (drop-drop (to - from) from text) in
    rw behind (take-append-drop (to - from) (drop from text))

together : (text : List ℕ) (from : ℕ) (tokens : List Token) (to : ℕ) → LexesBetween text from tokens to → put_together text from tokens ≡ drop from text
together text from [] to front = refl
together text from (token ∷ tokens) to front =
    let gap = IsGap-forward text front.0 in
    let rest = together text (token.at + token.len) tokens to front.2 in
    rw rest (rw (span_and_rest text token.at (token.at + token.len) (omega arith)) (span_and_rest text from token.at gap))

all_some : (text : List ℕ) (from : ℕ) (tokens : List Token) (to : ℕ) → LexesBetween text from tokens to → All (λ token. 0 < token.len) tokens
all_some text from [] to front = All-nil (λ token. 0 < token.len)
all_some text from (token ∷ tokens) to front =
    let within = IsToken-within text token.kind token.at (token.at + token.len) front.1 in
    All-cons (λ token. 0 < token.len) token tokens (omega (arith, within.some)) (all_some text (token.at + token.len) tokens to front.2)

all_within : (text : List ℕ) (from : ℕ) (tokens : List Token) (to : ℕ) → LexesBetween text from tokens to → All (λ token. token.at + token.len ≤ length text) tokens
all_within text from [] to front = All-nil (λ token. token.at + token.len ≤ length text)
all_within text from (token ∷ tokens) to front =
    let within = IsToken-within text token.kind token.at (token.at + token.len) front.1 in
    All-cons (λ token. token.at + token.len ≤ length text) token tokens within.within (all_within text (token.at + token.len) tokens to front.2)

pub cover_text : (text : List ℕ) (tokens : List Token) → Lexes text tokens → CoverText text tokens
cover_text text tokens lexes = record {
  some = all_some text 0 tokens (length text) lexes;
  within = all_within text 0 tokens (length text) lexes;
  together = together text 0 tokens (length text) lexes;
}

all_begin : (text : List ℕ) (from : ℕ) (tokens : List Token) (to : ℕ) → LexesBetween text from tokens to → All (BeginsAsItsKind text) tokens
all_begin text from [] to front = All-nil (BeginsAsItsKind text)
all_begin text from (token ∷ tokens) to front =
    let of_kind : TokenKind → Type 0 = λ kind. IsToken text kind token.at (token.at + token.len) in
    let here : BeginsAsItsKind text token = record {
      word = λ is. (subst of_kind is front.1).opens.no_quoted;
      quoted = λ is. (subst of_kind is front.1).opens;
    } in
    All-cons (BeginsAsItsKind text) token tokens here (all_begin text (token.at + token.len) tokens to front.2)

pub begin_as_their_kinds : (text : List ℕ) (tokens : List Token) → Lexes text tokens → All (BeginsAsItsKind text) tokens
begin_as_their_kinds text tokens lexes = all_begin text 0 tokens (length text) lexes

-- A pass that answers the tokens of a text or its fault answers those that it has, and that which it has.
module _ {V : Type 0} (text : List ℕ) (items : V → List Token) where
  pub gives_tokens : (answer : Result V LexFault) → IfOk answer (λ v. Lexes text (items v)) → IfErr answer (IsFaultOf text) → (wanted : List Token) → Lexes text wanted → MatchResult answer (λ v. items v ≡ wanted) (λ fault. fault ≡ out_of_memory)
  gives_tokens (Ok v) found fault wanted lexes = one_reading text (items v) wanted found lexes
  gives_tokens (Err e) found fault wanted lexes = ⊎_elim (λ memory. memory) (λ breaks. absurd (not_both text wanted e.kind e.at lexes breaks)) fault

  pub gives_fault : (answer : Result V LexFault) → IfOk answer (λ v. Lexes text (items v)) → IfErr answer (IsFaultOf text) → (wanted : LexFault) → Breaks text wanted.kind wanted.at → MatchResult answer (λ v. ⊥) (λ fault. (fault ≡ out_of_memory) ⊎ (fault ≡ wanted))
  gives_fault (Ok v) found fault wanted breaks = not_both text (items v) wanted.kind wanted.at found breaks
  gives_fault (Err e) found fault wanted breaks =
      ⊎_elim
      (λ memory. inl memory)
      (λ also. let same = one_break text e.kind wanted.kind e.at wanted.at also breaks in inr (λ i. record { kind = same.0 i; at = same.1 i }))
      fault
