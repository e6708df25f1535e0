-- Bytes that stand at a place of a text.
use Rattle.std.proofs.Common.{◌≡◌, ℕ, ◌+◌, ◌≤◌, List, ◌++◌, length, drop, sym, ◌∙◌, ap, refl, arith, append_assoc, length-drop, length-append}
use Rattle.std.proofs.lemmas.List.{drop-drop, drop_at}
use Rattle.vex_lex.specs.Bytes.{HasBytes}

-- The bytes end within the text.
pub HasBytes-within : (bytes text : List ℕ) (place : ℕ) → place ≤ length text → HasBytes bytes text place → place + length bytes ≤ length text
HasBytes-within bytes text place within has =
    omega (arith, length-drop place text, ap length has.1, length-append bytes has.0)

-- Bytes stand at a place if their first part does, and the rest does behind it.
pub HasBytes-append : (front bytes text : List ℕ) (place : ℕ) → HasBytes front text place → HasBytes bytes text (place + length front) → HasBytes (front ++ bytes) text place
HasBytes-append front bytes text place has_front has_bytes =
    let behind : has_front.0 ≡ bytes ++ has_bytes.0 =
    sym (drop_at front has_front.0 (length front) refl)
    ∙ ap (drop (length front)) (sym has_front.1)
    ∙ drop-drop (length front) place text
    ∙ has_bytes.1 in
    (has_bytes.0, has_front.1 ∙ ap (λ l. front ++ l) behind ∙ sym (append_assoc front bytes has_bytes.0))

-- And only then.
pub HasBytes-front : (front bytes text : List ℕ) (place : ℕ) → HasBytes (front ++ bytes) text place → HasBytes front text place
HasBytes-front front bytes text place has = (bytes ++ has.0, has.1 ∙ append_assoc front bytes has.0)

pub HasBytes-back : (front bytes text : List ℕ) (place : ℕ) → HasBytes (front ++ bytes) text place → HasBytes bytes text (place + length front)
HasBytes-back front bytes text place has = (
  has.0,
  sym (drop-drop (length front) place text)
      ∙ ap (drop (length front)) (has.1 ∙ append_assoc front bytes has.0)
      ∙ drop_at front (bytes ++ has.0) (length front) refl,
)
