-- The lines of the journal's faults, which no other line is.
use Rattle.std.specs.Prelude.{codes, decimal, drop, if◌then◌else◌, ◌==◌}
use Rattle.std.specs.Fmt.{digits, digits_onto, digit_glyph}
use Rattle.std.proofs.Common.{◌≡◌, ◌∙◌, ◌⊎◌, ⊎_elim, ℕ, zero, suc, ◌+◌, ◌*◌, ◌/◌, ◌%◌, ◌^◌, ◌≤◌, ◌<◌, Bool, true, false, List, [], ◌∷◌, ◌++◌, length, take, get_or, Option, Some, None, Ok, refl, sym, ap, subst, arith, length-append, eqb-true}
use Rattle.std.proofs.lemmas.Fmt.{decimal_is_IsNumeral_wide, length-decimal-le_wide}
use Rattle.std.specs.Str.Parse.{digits_value}
use Rattle.std.proofs.lemmas.List.{take-append-le}
use Rattle.std.proofs.Math.Seq.{take-length}
use Rattle.corr_model.specs.Files.{Files}
use Rattle.journal_image.specs.declared.difference.Differs.{Differs}
use Rattle.run_notes.specs.declared.refusal.Refusal.{Refusal}
use Rattle.run_notes.specs.declared.refusal.Refusal.TheVariants.{Memory, Words, Due as DueRefusal, Other, Read, Journal, Write}
use Rattle.run_notes.specs.Answers.{memory_answer, read_answer, journal_answer, write_answer, other_answer}
use Rattle.run_notes.specs.Refusals.{Outcomes, answer_of}
use Rattle.vlbi_core.specs.Calls.{Call, Task, OfJob, KeepsManyFor}
use Rattle.vlbi_core.specs.Restart.{SaysKept}
use Rattle.vlbi_core.specs.Steps.{IsCauseOf, IsShort, SaysFor}
use Rattle.run_ready.proofs.LawLemmas.{AreOne}
use Rattle.vlbi_core.proofs.TopLemmas.{task-not, calls-same}

-- ---- numbers as texts

abbrev chosen : Bool → List ℕ → List ℕ → List ℕ
chosen b x y = if b then x else y

power_some : (k : ℕ) → 1 ≤ 10 ^ k
power_some zero = omega arith
power_some (suc k) = let less = power_some k in let more : 10 ^ suc k ≡ 10 * 10 ^ k = omega arith in omega (arith, less, more)

longer : (k n : ℕ) (acc : List ℕ) → 10 ^ suc k ≤ n
    → (10 ^ k ≤ n / 10 → length (digits_onto k 10 false (n / 10) (digit_glyph false (n % 10) ∷ acc)) ≡ k + length (digit_glyph false (n % 10) ∷ acc))
    → (b : Bool) → (n / 10 == 0) ≡ b
    → length (chosen b (digit_glyph false (n % 10) ∷ acc) (digits_onto k 10 false (n / 10) (digit_glyph false (n % 10) ∷ acc))) ≡ suc k + length acc
longer k n acc long one true e =
    let small : n / 10 ≡ 0 = eqb-true (n / 10) 0 e in
    let more : 10 ^ suc k ≡ 10 * 10 ^ k = omega arith in
    absurd (omega (arith, long, more, small, power_some k))
longer k n acc long one false e =
    let more : 10 ^ suc k ≡ 10 * 10 ^ k = omega arith in
    let rest : 10 ^ k ≤ n / 10 = omega (arith, long, more) in
    let tail = one rest in
    omega (arith, tail)

-- what has more digits than are written is written with as many as are
long_digits : (k n : ℕ) (acc : List ℕ) → 10 ^ k ≤ n → length (digits_onto k 10 false n acc) ≡ k + length acc
long_digits zero n acc long = omega arith
long_digits (suc k) n acc long =
    longer k n acc long (λ rest. long_digits k (n / 10) (digit_glyph false (n % 10) ∷ acc) rest) (n / 10 == 0) refl

long-decimal : (n : ℕ) → 10 ^ 64 ≤ n → length (decimal n) ≡ 64
unfolding digits
long-decimal n long = let e = long_digits 64 n [] long in e

le_or_lt : (m n : ℕ) → (m ≤ n) ⊎ (n < m)
le_or_lt m n = grind arith

pub decimal-one : (m n : ℕ) → m < 2 ^ 64 → decimal m ≡ decimal n → m ≡ n
decimal-one m n small e = ⊎_elim
    (λ (long : 10 ^ 64 ≤ n). absurd (omega (arith, length-decimal-le_wide 20 m (omega arith) (omega arith) (omega arith), long-decimal n long, ap (λ (l : List ℕ). length l) e)))
    (λ (short : n < 10 ^ 64). sym (decimal_is_IsNumeral_wide m (omega arith)).1 ∙ ap (λ (l : List ℕ). digits_value 10 l) e ∙ (decimal_is_IsNumeral_wide n short).1)
    (le_or_lt (10 ^ 64) n)

-- ---- lines

-- two texts before the same end
same_front : (a b end : List ℕ) → a ++ end ≡ b ++ end → a ≡ b
same_front a b end e =
    let long : length a ≡ length b = omega (arith, ap (λ (l : List ℕ). length l) e, length-append a end, length-append b end) in
    sym (take-length a) ∙ sym (take-append-le (length a) a end (omega arith)) ∙ ap (λ (l : List ℕ). take (length a) l) e
    ∙ take-append-le (length a) b end (omega arith) ∙ ap (λ (n : ℕ). take n b) long ∙ take-length b

named-same : (m n : ℕ) → m < 2 ^ 64 → (journal_answer (Some m)).note ≡ (journal_answer (Some n)).note → m ≡ n
named-same m n small e = decimal-one m n small (same_front (decimal m) (decimal n) (codes " epochs kept" ++ 10 ∷ []) (ap (λ (l : List ℕ). drop 21 l) e))

module _ (line : List ℕ) (i x y : ℕ) (differ : x ≡ y → ⊥) where
  pub byte-not : (other : List ℕ) → get_or line i 0 ≡ x → get_or other i 0 ≡ y → line ≡ other → ⊥
  byte-not other p q e = differ (sym p ∙ ap (λ (l : List ℕ). get_or l i 0) e ∙ q)

named_unnamed : (k : ℕ) → (journal_answer (Some k)).note ≡ (journal_answer None).note → ⊥
named_unnamed k e = byte-not (journal_answer (Some k)).note 19 44 10 (λ h. cc) (journal_answer None).note refl refl e

-- the byte by which the line of a journal's fault is told
pub record IsOtherText (line : List ℕ) : Type 0 where
  pub some : (k : ℕ) → line ≡ (journal_answer (Some k)).note → ⊥
  pub none_named : line ≡ (journal_answer None).note → ⊥

by_byte : (line : List ℕ) (x : ℕ) → get_or line 6 0 ≡ x → (x ≡ 106 → ⊥) → IsOtherText line
by_byte line x is differ = record {
  some = λ k e. byte-not line 6 x 106 differ (journal_answer (Some k)).note is refl e;
  none_named = λ e. byte-not line 6 x 106 differ (journal_answer None).note is refl e;
}

pub nothing-other : IsOtherText []
nothing-other = by_byte [] 0 refl (λ e. omega (arith, e))

memory-other : IsOtherText memory_answer.note
memory-other = by_byte memory_answer.note 111 refl (λ e. omega (arith, e))

read-other : IsOtherText read_answer.note
read-other = by_byte read_answer.note 114 refl (λ e. omega (arith, e))

write-other : IsOtherText write_answer.note
write-other = by_byte write_answer.note 119 refl (λ e. omega (arith, e))

journal-other : (d : Differs) → IsOtherText (other_answer d).note
journal-other d = by_byte (other_answer d).note 111 refl (λ e. omega (arith, e))

-- ---- what a line says

module _ (files : Files) (images : List ℕ → Type 0) (before after old new : Option (List ℕ)) where
  pub other-says : (call : Call) (line : List ℕ) → IsOtherText line → SaysKept files call line images before after old new
  other-says call line other = record {
    named = λ _ k e. absurd (other.some k e);
    unnamed = λ _ e. absurd (other.none_named e);
    status = λ _ k e. other.some k e;
  }

  journal-says : (call : Call) (kept : Option ℕ) → ((k : ℕ) → kept ≡ Some k → k < 2 ^ 64) → (call.sums ≡ true → SaysFor kept files call images before after old new)
      → (call.sums ≡ false → kept ≡ None) → SaysKept files call (journal_answer kept).note images before after old new
  journal-says call None small says unnamed = record {
    named = λ _ k e. absurd (named_unnamed k (sym e));
    unnamed = λ run _. says run;
    status = λ _ k e. named_unnamed k (sym e);
  }
  journal-says call (Some m) small says unnamed = record {
    named = λ run k e image now.
        let same : m ≡ k = named-same m k (small m refl) e in
        subst (λ (j : ℕ). KeepsManyFor files call image j ⊎ KeepsManyFor files call image (j + 1)) same (says run image now);
    unnamed = λ _ e. absurd (named_unnamed m e);
    status = λ other k e. absurd (gone (unnamed other));
  }
    where
      gone : Some m ≡ None → ⊥
      gone e = cc

  pub refused-says : (outcomes : Outcomes Task) (one : AreOne outcomes) (r : Refusal) → IsShort r → IsCauseOf r outcomes files images before after old new
      → (call : Call) → outcomes (Ok (OfJob call)) → SaysKept files call (answer_of r).note images before after old new
  refused-says outcomes one Memory short cause call there = other-says call memory_answer.note memory-other
  refused-says outcomes one (Words fault) short cause call there = absurd (task-not outcomes one (OfJob call) _ there cause)
  refused-says outcomes one (DueRefusal due) short cause call there = absurd (task-not outcomes one (OfJob call) _ there cause)
  refused-says outcomes one (Other d) short cause call there = other-says call (other_answer d).note (journal-other d)
  refused-says outcomes one Read short cause call there = other-says call read_answer.note read-other
  refused-says outcomes one (Journal kept) short cause call there =
      subst (λ (c : Call). SaysKept files c (journal_answer kept).note images before after old new) (calls-same outcomes one cause.call call cause.outcome there)
      (journal-says cause.call kept short cause.says cause.unnamed)
  refused-says outcomes one Write short cause call there = other-says call write_answer.note write-other
