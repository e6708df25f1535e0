-- The first byte of a token.
use Rattle.std.proofs.Common.{◌≡◌, ◌≢◌, ℕ, ◌+◌, ◌-◌, ◌<◌, ◌≤◌, Bool, true, false, not, ◌==◌, List, length, get_or, drop, slice_index, arith, refl, ap, ◌∙◌}
use Rattle.std.proofs.lemmas.List.{get_or-take, get_or-drop}
use Rattle.std.proofs.lemmas.Bool.Decides.{Decides-eqb}
use Rattle.vex_lex.specs.declared.token.Token.{Token}
use Rattle.vex_lex.specs.Shapes.{span}
use Rattle.vex_lex.specs.Laws.{BeginsAsItsKind}
use Rattle.vex_lex.proofs.GrammarLaws.{cover_text, begin_as_their_kinds}
use Rattle.vex_laws.specs.Kinds.{IsWordByKind, TellsWords}

first_byte : (text : List ℕ) (at len : ℕ) → 0 < len → slice_index (span text at (at + len)) 0 ≡ slice_index text at
first_byte text at len some =
    let long : 0 < at + len - at = omega arith in
    let here : at + 0 ≡ at = omega arith in
    get_or-take (at + len - at) (drop at text) 0 0 long ∙ get_or-drop at text 0 0 ∙ ap (λ i. get_or text i 0) here

differs : (a b : ℕ) → a ≢ b → (a == b) ≡ false
differs a b other = by (a == b) refl
  where
    by : (t : Bool) → (a == b) ≡ t → t ≡ false
    by true e = absurd (other ((Decides-eqb a b).0 e))
    by false e = refl

by_kind : (text : List ℕ) (token : Token) → 0 < token.len → token.at + token.len ≤ length text → BeginsAsItsKind text token → IsWordByKind text token
by_kind text token some within begins =
    let below : token.at < length text = omega arith in
    let first = first_byte text token.at token.len some in
    record {
      word = λ is. ap (λ byte. not (byte == 34)) first ∙ ap not (differs (slice_index text token.at) 34 (λ same. begins.word is (below, same)));
      quoted = λ is. ap (λ byte. not (byte == 34)) first ∙ ap (λ byte. not (byte == 34)) (begins.quoted is).1;
    }

pub tells_words : (text : List ℕ) → TellsWords text
tells_words text tokens lexes =
    let cover = cover_text text tokens lexes in
    λ k d below. by_kind text (get_or tokens k d) (cover.some k d below) (cover.within k d below) (begin_as_their_kinds text tokens lexes k d below)
