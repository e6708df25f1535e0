-- Digits and the numbers that they write.
use Rattle.std.proofs.Common.{◌≡◌, ℕ, ◌+◌, ◌-◌, ◌*◌, ◌<◌, min, Bool, true, false, ◌&&◌, List, [], ◌∷◌, ◌++◌, length, take, drop, get_or, zero, suc, arith, refl, sym, ap, ◌∙◌}
use Rattle.std.proofs.lemmas.List.{drop_more}
use Rattle.std.proofs.lemmas.Str.{digit_value_digit}
use Rattle.std.proofs.lemmas.Bool.Decides.{nat_tests}
use Rattle.std.specs.Char.{digit_value, is_ascii_digit}
use Rattle.std.specs.Int.{IsInRange}
use Rattle.std.specs.Str.Parse.{AllDigits, digits_value, digits_value_after}
use Rattle.num_time.specs.Numerals.{are_digits}

-- both tests of an &&
pub and_first : (a b : Bool) → (a && b) ≡ true → a ≡ true
and_first true b h = refl
and_first false b h = h

pub and_second : (a b : Bool) → (a && b) ≡ true → b ≡ true
and_second true b h = h
and_second false b h = cc

pub and_both : (a b : Bool) → a ≡ true → b ≡ true → (a && b) ≡ true
and_both a b p q = rw (p, q) refl

-- a digit's code lies from 48 to 57
pub digit_range : (c : ℕ) → is_ascii_digit c ≡ true → IsInRange 48 57 c
digit_range c h = grind (arith, nat_tests, h)

pub digit_value-sub : (c : ℕ) → is_ascii_digit c ≡ true → digit_value c ≡ c - 48
digit_value-sub c h = let r = digit_range c h in omega (arith, digit_value_digit c r)

-- a number that is kept below a limit writes the same further digits up to that limit
pub capped : (most n : ℕ) (ds : List ℕ) → min (digits_value_after 10 (min n most) ds) most ≡ min (digits_value_after 10 n ds) most
capped most n [] = omega arith
capped most n (c ∷ cs) =
    let v : ℕ = digit_value c in
    let inner : min (min n most * 10 + v) most ≡ min (n * 10 + v) most = omega arith in
    sym (capped most (min n most * 10 + v) cs)
    ∙ ap (λ m. min (digits_value_after 10 m cs) most) inner
    ∙ capped most (n * 10 + v) cs

-- the loop's step
pub step_digits : (ds : List ℕ) (i : ℕ) → i < length ds → are_digits (drop i ds) ≡ true → are_digits (drop (i + 1) ds) ≡ true
step_digits ds i h d = and_second _ _ (sym (ap are_digits (drop_more ds i 0 h)) ∙ d)

pub digit_here : (ds : List ℕ) (i : ℕ) → i < length ds → are_digits (drop i ds) ≡ true → is_ascii_digit (get_or ds i 0) ≡ true
digit_here ds i h d = and_first _ _ (sym (ap are_digits (drop_more ds i 0 h)) ∙ d)

pub step_number : (ds : List ℕ) (i n c most : ℕ) → i < length ds → c ≡ get_or ds i 0 → are_digits (drop i ds) ≡ true
    → min (digits_value_after 10 (min (min (n * 10) most + (c - 48)) most) (drop (i + 1) ds)) most ≡ min (digits_value_after 10 n (drop i ds)) most
step_number ds i n c most h e d =
    let digit = digit_value-sub (get_or ds i 0) (digit_here ds i h d) in
    let same : min (min (n * 10) most + (c - 48)) most ≡ min (n * 10 + digit_value (get_or ds i 0)) most = rw (digit, e) (omega arith) in
    ap (λ m. min (digits_value_after 10 m (drop (i + 1) ds)) most) same
    ∙ capped most (n * 10 + digit_value (get_or ds i 0)) (drop (i + 1) ds)
    ∙ ap (λ xs. min (digits_value_after 10 n xs) most) (sym (drop_more ds i 0 h))

-- digits in std's words
pub AllDigits-are_digits : (ds : List ℕ) → are_digits ds ≡ true → AllDigits 10 ds
AllDigits-are_digits [] h = tt
AllDigits-are_digits (c ∷ cs) h =
    let d = and_first _ _ h in
    (let r = digit_range c d in omega (arith, digit_value-sub c d), AllDigits-are_digits cs (and_second _ _ h))

-- a part of some digits is digits
pub are_digits-take : (n : ℕ) (ds : List ℕ) → are_digits ds ≡ true → are_digits (take n ds) ≡ true
are_digits-take zero ds h = refl
are_digits-take (suc n) [] h = refl
are_digits-take (suc n) (c ∷ cs) h =
    and_both _ _ (and_first _ _ h) (are_digits-take n cs (and_second _ _ h))

-- further digits in two parts
pub digits_value_after-append : (n : ℕ) (xs ys : List ℕ) → digits_value_after 10 n (xs ++ ys) ≡ digits_value_after 10 (digits_value_after 10 n xs) ys
digits_value_after-append n [] ys = refl
digits_value_after-append n (x ∷ xs) ys = digits_value_after-append (n * 10 + digit_value x) xs ys

-- three parts, each kept below a limit, write the same as one text
pub capped_parts : (most : ℕ) (xs ys zs : List ℕ) (a b c : ℕ) → a ≡ min (digits_value_after 10 0 xs) most → b ≡ min (digits_value_after 10 a ys) most
    → c ≡ min (digits_value_after 10 b zs) most
    → c ≡ min (digits_value 10 (xs ++ (ys ++ zs))) most
capped_parts most xs ys zs a b c p q r =
    let n : ℕ = digits_value_after 10 0 xs in
    let m : ℕ = digits_value_after 10 n ys in
    let b_is : b ≡ min m most = q ∙ ap (λ x. min (digits_value_after 10 x ys) most) p ∙ capped most n ys in
    r
    ∙ ap (λ x. min (digits_value_after 10 x zs) most) b_is
    ∙ capped most m zs
    ∙ ap (λ x. min x most) (sym (digits_value_after-append 0 xs (ys ++ zs) ∙ digits_value_after-append n ys zs))
