-- What is split at the sign and at the first point is what the grammar says.
use Rattle.std.proofs.Common.{◌≡◌, ℕ, ◌+◌, Bool, true, false, not, ◌&&◌, ◌||◌, ◌==◌, inl, inr, List, [], ◌∷◌, ◌++◌, length, take, drop, get_or, suc, arith, refl, sym, ap, ◌∙◌, if◌then◌else◌, ⊎_elim, Err}
use Rattle.std.proofs.lemmas.List.{take_at, drop_all, drop_more, take-append-drop}
use Rattle.std.proofs.lemmas.List.Sums.{passes_at_first}
use Rattle.std.proofs.lemmas.Bool.{cases_lt}
use Rattle.std.proofs.lemmas.Bool.Decides.{nat_tests}
use Rattle.std.specs.Char.{is_ascii_digit}
use Rattle.std.specs.List.{position_or_len}
use Rattle.num_time.specs.Grammar.{IsSign, IsPoint, IsWritten, IsNumber}
use Rattle.num_time.specs.Numerals.{are_digits, back_of, decimal_of, front_of, is_negative, is_number, is_point, scaled, without_sign}
use Rattle.num_time.specs.declared.numerals.NumFault.TheVariants.{NotNumber}
use Rattle.num_time.proofs.DigitLemmas.{and_first, and_second, digit_range}

-- no digit is a point
digit_no_point : (c : ℕ) → is_ascii_digit c ≡ true → is_point c ≡ false
digit_no_point c h = let r = digit_range c h in grind (arith, nat_tests)

-- the first point stands behind the digits of the front
point_behind : (front point back : List ℕ) → are_digits front ≡ true → IsPoint point back
    → position_or_len is_point (front ++ (point ++ back)) ≡ length front
point_behind [] point back d (inl e) = rw e refl
point_behind [] point back d (inr e) = rw (e.0, e.1) refl
point_behind (c ∷ cs) point back d p =
    let rest : position_or_len is_point (cs ++ (point ++ back)) ≡ length cs = point_behind cs point back (and_second (is_ascii_digit c) (are_digits cs) d) p in
    let no : is_point c ≡ false = digit_no_point c (and_first _ _ d) in
    rw (no, rest) (omega arith)

front_is : (body front point back : List ℕ) → body ≡ front ++ (point ++ back) → are_digits front ≡ true → IsPoint point back
    → take (position_or_len is_point body) body ≡ front
front_is body front point back e d p =
    let n : ℕ = length front in
    ap (λ b. take (position_or_len is_point b) b) e
    ∙ ap (λ n. take n (front ++ (point ++ back))) (point_behind front point back d p)
    ∙ take_at front (point ++ back) n refl

behind_front : (front point back : List ℕ) → IsPoint point back → drop (length front + 1) (front ++ (point ++ back)) ≡ back
behind_front [] point back (inl e) = rw e refl
behind_front [] point back (inr e) = rw (e.0, e.1) refl
behind_front (c ∷ cs) point back p =
    let n : suc (length cs) + 1 ≡ suc (length cs + 1) = omega arith in
    rw n (behind_front cs point back p)

back_is : (body front point back : List ℕ) → body ≡ front ++ (point ++ back) → are_digits front ≡ true → IsPoint point back
    → drop (position_or_len is_point body + 1) body ≡ back
back_is body front point back e d p =
    ap (λ b. drop (position_or_len is_point b + 1) b) e
    ∙ ap (λ n. drop (n + 1) (front ++ (point ++ back))) (point_behind front point back d p)
    ∙ behind_front front point back p

-- a body begins with no sign
no_sign : (front point back : List ℕ) → are_digits front ≡ true → IsPoint point back
    → (let c = get_or (front ++ (point ++ back)) 0 0 in ((c == 43) ≡ false) × ((c == 45) ≡ false))
no_sign [] point back d (inl e) = rw e (refl, refl)
no_sign [] point back d (inr e) = rw (e.0, e.1) (refl, refl)
no_sign (c ∷ cs) point back d p =
    let r = digit_range c (and_first _ _ d) in (grind (arith, nat_tests), grind (arith, nat_tests))

unsigned : (negative : Bool) (sign front point back : List ℕ) → IsSign negative sign → are_digits front ≡ true → IsPoint point back
    → (without_sign (sign ++ (front ++ (point ++ back))) ≡ front ++ (point ++ back))
    × (is_negative (sign ++ (front ++ (point ++ back))) ≡ negative)
unsigned true sign front point back s d p = rw s (refl, refl)
unsigned false sign front point back (inl s) d p =
    let no = no_sign front point back d p in rw (s, no.0, no.1) (refl, refl)
unsigned false sign front point back (inr s) d p = rw s (refl, refl)

some_length : (front back : List ℕ) → ((front ≡ []) × (back ≡ []) → ⊥) → not ((length front == 0) && (length back == 0)) ≡ true
some_length [] [] h = absurd (h (refl, refl))
some_length [] (b ∷ bs) h = grind (arith, nat_tests)
some_length (a ∷ rest) back h = grind (arith, nat_tests)

read_parts : (places : ℕ) (n negative : Bool) (f front b back : List ℕ) → n ≡ negative → f ≡ front → b ≡ back → are_digits front ≡ true
    → are_digits back ≡ true
    → not ((length front == 0) && (length back == 0)) ≡ true
    → (if not (are_digits f && are_digits b && not ((length f == 0) && (length b == 0))) then Err NotNumber else scaled n f b places)
    ≡ scaled negative front back places
read_parts places n negative f front b back en ef eb d1 d2 d3 = rw (en, ef, eb, d1, d2, d3) refl

-- what the grammar writes is read as it says
pub decimal_of-written : (text : List ℕ) (places : ℕ) (negative : Bool) (front back : List ℕ) → IsWritten negative front back text
    → decimal_of text places ≡ scaled negative front back places
unfolding decimal_of is_number
decimal_of-written text places negative front back w =
    let body : List ℕ = front ++ (w.point ++ back) in
    let u = unsigned negative w.sign front w.point back w.is_sign w.front_digits w.is_point in
    let bare : without_sign text ≡ body = ap without_sign w.text_is ∙ u.0 in
    let sign : is_negative text ≡ negative = ap is_negative w.text_is ∙ u.1 in
    let f : front_of text ≡ front = front_is (without_sign text) front w.point back bare w.front_digits w.is_point in
    let b : back_of text ≡ back = back_is (without_sign text) front w.point back bare w.front_digits w.is_point in
    read_parts places (is_negative text) negative (front_of text) front (back_of text) back sign f b w.front_digits w.back_digits (some_length front back w.some)

if_or : (b : Bool) (xs ys : List ℕ) → (if b || true then xs else ys) ≡ xs
if_or true xs ys = refl
if_or false xs ys = refl

-- the sign of a text
record HasSign (negative : Bool) (text body : List ℕ) : Type 0 where
  sign : List ℕ
  is_sign : IsSign negative sign
  text_is : text ≡ sign ++ body

signed_by : (c : ℕ) (cs : List ℕ) (plus minus : Bool) → (c == 43) ≡ plus → (c == 45) ≡ minus
    → HasSign minus (c ∷ cs) (if plus || minus then cs else c ∷ cs)
signed_by c cs plus true p m =
    let code : c ≡ 45 = grind (arith, nat_tests, m) in
    let behind : (if plus || true then cs else c ∷ cs) ≡ cs = if_or plus cs (c ∷ cs) in
    record { sign = 45 ∷ []; is_sign = refl; text_is = ap (λ x. x ∷ cs) code ∙ ap (λ b. 45 ∷ b) (sym behind) }
signed_by c cs true false p m =
    let code : c ≡ 43 = grind (arith, nat_tests, p) in
    record { sign = 43 ∷ []; is_sign = inr refl; text_is = ap (λ x. x ∷ cs) code }
signed_by c cs false false p m = record { sign = []; is_sign = inl refl; text_is = refl }

HasSign-without_sign : (text : List ℕ) → HasSign (is_negative text) text (without_sign text)
HasSign-without_sign [] = record { sign = []; is_sign = inl refl; text_is = refl }
HasSign-without_sign (c ∷ cs) = signed_by c cs (c == 43) (c == 45) refl refl

-- the point of a body
record HasPoint (front back body : List ℕ) : Type 0 where
  point : List ℕ
  is_point : IsPoint point back
  body_is : body ≡ front ++ (point ++ back)

HasPoint-first : (body : List ℕ)
    → HasPoint (take (position_or_len is_point body) body) (drop (position_or_len is_point body + 1) body) body
HasPoint-first body =
    let p : ℕ = position_or_len is_point body in
    let front : List ℕ = take p body in
    let back : List ℕ = drop (p + 1) body in
    ⊎_elim
    (λ less.
    let here : get_or body p 0 ≡ 46 = grind (arith, nat_tests, passes_at_first is_point body 0 less) in
    let rest : drop p body ≡ 46 ∷ back = drop_more body p 0 less ∙ ap (λ c. c ∷ back) here in
    record {
      point = 46 ∷ [];
      is_point = inl refl;
      body_is = sym (take-append-drop p body) ∙ ap (λ b. front ++ b) rest;
    })
    (λ past.
    let none : drop p body ≡ [] = drop_all p body past in
    let nothing : back ≡ [] = drop_all (p + 1) body (omega (arith, past)) in
    record {
      point = [];
      is_point = inr (refl, nothing);
      body_is = sym (take-append-drop p body) ∙ ap (λ b. front ++ b) (none ∙ sym nothing);
    })
    (cases_lt p (length body))

some_parts : (front back : List ℕ) → not ((length front == 0) && (length back == 0)) ≡ true → (front ≡ []) × (back ≡ []) → ⊥
some_parts front back h e = let k = rw (e.0, e.1) at h in cc

-- what is split so is written so
pub IsNumber-is_number : (text : List ℕ) → is_number text ≡ true → IsNumber text
unfolding is_number
IsNumber-is_number text h =
    let s = HasSign-without_sign text in
    let p = HasPoint-first (without_sign text) in
    let digits : Bool = are_digits (front_of text) && are_digits (back_of text) in
    let some : Bool = not ((length (front_of text) == 0) && (length (back_of text) == 0)) in
    let both : digits ≡ true = and_first digits some h in
    record {
      negative = is_negative text;
      front = front_of text;
      back = back_of text;
      written = record {
        sign = s.sign;
        point = p.point;
        is_sign = s.is_sign;
        is_point = p.is_point;
        front_digits = and_first (are_digits (front_of text)) (are_digits (back_of text)) both;
        back_digits = and_second (are_digits (front_of text)) (are_digits (back_of text)) both;
        some = some_parts (front_of text) (back_of text) (and_second digits some h);
        text_is = s.text_is ∙ ap (λ b. s.sign ++ b) p.body_is;
      };
    }

by_test : (b : Bool) (text : List ℕ) (places : ℕ) → is_number text ≡ b → (decimal_of text places ≡ Err NotNumber → ⊥) → IsNumber text
unfolding decimal_of
by_test true text places e h = IsNumber-is_number text e
by_test false text places e h = absurd (h (rw e refl))

-- a text that is refused as no number is none
pub IsNumber-decimal_of : (text : List ℕ) (places : ℕ) → (decimal_of text places ≡ Err NotNumber → ⊥) → IsNumber text
IsNumber-decimal_of text places h = by_test (is_number text) text places refl h
