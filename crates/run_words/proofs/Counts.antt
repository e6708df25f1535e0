-- What is read of a text of digits.
use Rattle.std.proofs.Common.{◌≡◌, ◌∙◌, ap, sym, ℕ, ◌<◌, ◌≤◌, ◌^◌, true, false, cond, List, length, Result, Ok, Err, arith, rules, refl}
use Rattle.std.specs.Str.Parse.{digits_value, ParsesUnsigned}
use Rattle.std.proofs.lemmas.Bool.{and_parts, leb-true, and_right, lt-leb}
use Rattle.std.proofs.lemmas.Str.Parse.{IsNumeralModel, numerals_by_value, parse_digits}
use Rattle.num_time.specs.Numerals.{are_digits}
use Rattle.run_words.specs.declared.fault.WordsFault.{WordsFault}
use Rattle.run_words.specs.declared.fault.WordsFault.TheVariants.{Value}
use Rattle.run_words.specs.Numbers.{is_count, within, number_in}

own : IsNumeralModel (λ ds. are_digits ds ≡ true) (digits_value 10)
own = numerals_by_value _ (search rules)

count-digits : (text : List ℕ) → is_count text ≡ true → (0 < length text) × (are_digits text ≡ true)
count-digits text is =
    let one = and_parts _ _ is in
    let more = and_parts _ _ one.1 in
    (leb-true 1 (length text) one.0, more.1)

pub number_in-other : (least most : ℕ) (text : List ℕ) → is_count text ≡ false → Err Value ≡ number_in least most text
unfolding number_in
number_in-other least most text is = sym (ap (λ b. cond b (within least most (digits_value 10 text)) (Err Value)) is)

-- the text of a number below 2^64
pub number_in-read : (least most : ℕ) (text : List ℕ) (number : ℕ) (answer : Result ℕ WordsFault) → is_count text ≡ true
    → ParsesUnsigned {E = WordsFault} 64 10 text (Ok number) → answer ≡ within least most number → answer ≡ number_in least most text
unfolding number_in
number_in-read least most text number answer is read within_is =
    let digits = count-digits text is in
    let same : number ≡ digits_value 10 text = (parse_digits own {E = WordsFault} 64 text (Ok number) read digits.1).1 in
    within_is ∙ ap (within least most) same ∙ sym (ap (λ b. cond b (within least most (digits_value 10 text)) (Err Value)) is)

-- the text of a larger one
pub number_in-large : {E : Type 0} (least most : ℕ) (text : List ℕ) (e : E) → is_count text ≡ true → most < 2 ^ 64
    → ParsesUnsigned 64 10 text (Err e) → Err Value ≡ number_in least most text
unfolding number_in
number_in-large least most text e is small read =
    let digits = count-digits text is in
    let large : digits_value 10 text < 2 ^ 64 → ⊥ = λ below. parse_digits own 64 text (Err e) read digits.1 (digits.0, below) in
    let above : 2 ^ 64 ≤ digits_value 10 text = omega (arith, large) in
    rw (is, and_right _ _ (lt-leb (digits_value 10 text) most (omega arith))) refl
