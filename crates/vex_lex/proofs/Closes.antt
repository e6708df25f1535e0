-- The walk to the end of a literal: from one `)` to the next.
use Rattle.std.proofs.Common.{◌≡◌, ◌≢◌, ℕ, ◌+◌, ◌-◌, ◌<◌, ◌≤◌, List, ◌++◌, length, drop, get_or, sym, ◌∙◌, subst, ap, refl, ⊎_elim, arith, length-append, length-take, length-drop}
use Rattle.std.specs.Prelude.{codes, nat_eq}
use Rattle.std.specs.List.{list_any}
use Rattle.std.proofs.lemmas.List.{get_or-drop, get_or-take, get_or_append_left, get_or-append_right}
use Rattle.std.proofs.lemmas.List.Folds.{list_any_at}
use Rattle.std.proofs.str.Laws.{order}
use Rattle.vex_lex.specs.Bytes.{HasBytes}
use Rattle.vex_lex.specs.First.{IsFirst}
use Rattle.vex_lex.specs.Shapes.{ClosesLiteral, IsTag, span}
use Rattle.vex_lex.proofs.Literals.{ClosesLiteral-within}
use Rattle.vex_lex.proofs.Placed.{HasBytes-front, HasBytes-back}

abbrev end_word : List ℕ
end_word = codes "end_literal("

-- The tag has no `)`.
abbrev pub IsPlain : List ℕ → Type 0
IsPlain tag = (i : ℕ) → i < length tag → get_or tag i 0 ≢ 41

-- A literal's tag has none.
pub IsTag-plain : (text : List ℕ) (from to : ℕ) → IsTag text from to → IsPlain (span text from to)
IsTag-plain text from to tag i less same =
    let below : i < to - from = omega (arith, less, length-take (to - from) (drop from text)) in
    let within : from + i < length text = omega (arith, less, length-take (to - from) (drop from text), length-drop from text) in
    let there : get_or text (from + i) 0 ≡ 41 = sym (get_or-drop from text i 0) ∙ sym (get_or-take (to - from) (drop from text) i 0 below) ∙ same in
    tag.ends.before.none (from + i) (omega (arith, below)) (omega arith) (within, there)

-- What stands at a place of bytes that are there.
byte_of : (bytes text : List ℕ) (place : ℕ) → HasBytes bytes text place → (j : ℕ) → j < length bytes → get_or text (place + j) 0 ≡ get_or bytes j 0
byte_of bytes text place has j less =
    sym (get_or-drop place text j 0) ∙ ap (λ l. get_or l j 0) has.1 ∙ get_or_append_left bytes has.0 0 j less

-- The word has no `)`.
word_plain : (k : ℕ) → k < 12 → get_or end_word k 0 ≢ 41
word_plain k less same =
    let found : list_any (λ b. nat_eq b 41) end_word ≡ list_any (λ b. nat_eq b 41) end_word = cc in
    absurd (grind (arith, list_any_at (λ b. nat_eq b 41) end_word k 0 less))

-- The word and a tag with no `)` have none together.
front_plain : (tag : List ℕ) → IsPlain tag → (k : ℕ) → k < 12 + length tag → get_or (end_word ++ tag) k 0 ≢ 41
front_plain tag plain k less =
    ⊎_elim
    (λ within same. word_plain k within (sym (get_or_append_left end_word tag 0 k within) ∙ same))
    (λ behind same. plain (k - 12) (omega arith) (sym (get_or-append_right end_word tag 12 k 0 refl behind) ∙ same))
    (order k 12)

module _ (tag text : List ℕ) where
  -- A literal is closed by a `)`, and no other stands before it in what closes it.
  closes-sign : (place : ℕ) → ClosesLiteral tag text place → get_or text (place + (12 + length tag)) 0 ≡ 41
  closes-sign place closes =
      let there : place + (12 + length tag) ≡ place + length (end_word ++ tag) + 0 = omega (arith, length-append end_word tag) in
      rw there (byte_of (codes ")") text (place + length (end_word ++ tag)) (HasBytes-back (end_word ++ tag) (codes ")") text place closes) 0 (omega arith))

  closes-plain : IsPlain tag → (place k : ℕ) → ClosesLiteral tag text place → place ≤ k → k < place + (12 + length tag) → get_or text k 0 ≢ 41
  closes-plain plain place k closes from below same =
      let within : k - place < 12 + length tag = omega (arith, from, below) in
      let long : k - place < length (end_word ++ tag) = omega (arith, within, length-append end_word tag) in
      let there : place + (k - place) ≡ k = omega (arith, from) in
      let byte = byte_of (end_word ++ tag) text place (HasBytes-front (end_word ++ tag) (codes ")") text place closes) (k - place) long in
      front_plain tag plain (k - place) within (sym byte ∙ ap (λ i. get_or text i 0) there ∙ same)

  -- A walk has come to `at`: what it compares from here on begins at `behind`, which is where it began or behind a `)`, and
  -- no place that it passed closes the literal.
  pub record Passes (from behind at : ℕ) : Type 0 where
    pub start : from ≤ behind
    pub reached : behind ≤ at
    pub sign : from < behind → get_or text (behind - 1) 0 ≡ 41
    pub passed : (place : ℕ) → from ≤ place → place + (12 + length tag) < at → ¬ ClosesLiteral tag text place

  pub Passes-start : (from : ℕ) → Passes from from from
  Passes-start from = record {
    start = omega arith;
    reached = omega arith;
    sign = λ below. absurd (omega arith);
    passed = λ place above below. absurd (omega arith);
  }

  -- Another byte than `)` closes nothing.
  pub Passes-other : (from behind at : ℕ) → Passes from behind at → get_or text at 0 ≢ 41 → Passes from behind (at + 1)
  Passes-other from behind at walk other = record {
    start = walk.start;
    reached = omega (arith, walk.reached);
    sign = walk.sign;
    passed = λ place above below closes.
        ⊎_elim
        (λ less. walk.passed place above less closes)
        (λ here. let same : place + (12 + length tag) ≡ at = omega arith in other (subst (λ k. get_or text k 0 ≡ 41) same (closes-sign place closes)))
        (order (place + (12 + length tag)) at);
  }

  -- A `)` that closes nothing behind the last one closes nothing.
  pub Passes-sign : IsPlain tag → (from behind at : ℕ) → Passes from behind at → get_or text at 0 ≡ 41
      → ¬ ((behind + 12 + length tag ≤ at) × ClosesLiteral tag text (at - (12 + length tag))) → Passes from (at + 1) (at + 1)
  Passes-sign plain from behind at walk sign unclosed = record {
    start = omega (arith, walk.start, walk.reached);
    reached = omega arith;
    sign = λ _. let there : at + 1 - 1 ≡ at = omega arith in rw there sign;
    passed = λ place above below closes.
        ⊎_elim
        (λ less. walk.passed place above less closes)
        (λ here.
        let same : place ≡ at - (12 + length tag) = omega arith in
        ⊎_elim
        (λ before. closes-plain plain place (behind - 1) closes (omega (arith, before)) (omega (arith, before, walk.reached, here)) (walk.sign (omega (arith, above, before))))
        (λ behind_it. unclosed (omega (arith, behind_it, here), subst (ClosesLiteral tag text) same closes))
        (order place behind))
        (order (place + (12 + length tag)) at);
  }

  pub Passes-found : (from behind at : ℕ) → Passes from behind at → behind + 12 + length tag ≤ at → ClosesLiteral tag text (at - (12 + length tag))
      → IsFirst (ClosesLiteral tag text) from (at - (12 + length tag))
  Passes-found from behind at walk fits closes = record {
    before = record {
      reached = omega (arith, walk.start, fits);
      none = λ place below above. walk.passed place above (omega (arith, below, fits));
    };
    here = closes;
  }

  pub Passes-never : (from behind at : ℕ) → Passes from behind at → length text ≤ at → (place : ℕ) → ¬ IsFirst (ClosesLiteral tag text) from place
  Passes-never from behind at walk all place first =
      walk.passed place first.before.reached (let within = ClosesLiteral-within tag text place first.here in omega (arith, within, all)) first.here
