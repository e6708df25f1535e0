-- A part of a list that was written.
use Rattle.std.proofs.Common.{◌≡◌, ◌∙◌, ap, ℕ, ◌+◌, ◌-◌, ◌<◌, ◌≤◌, List, length, take, drop, ◌++◌, get_or, arith}
use Rattle.std.proofs.lemmas.List.{get_or-take, get_or_append_left, get_or-append_right, get_or-drop, length-take-le, length-append, length-drop}
use borrow.Rule.Slice.PartMut.{put_mid}

-- before the part
pub get_or-before : {X : Type 0} (xs ys : List X) (a n k : ℕ) (d : X) → k < a → a ≤ length xs
    → get_or (put_mid a n xs ys) k d ≡ get_or xs k d
get_or-before xs ys a n k d before within =
    let long : length (take a xs) ≡ a = length-take-le a xs within in
    get_or_append_left (take a xs) _ d k (omega (arith, long)) ∙ get_or-take a xs k d before

-- in it
pub get_or-inside : {X : Type 0} (xs ys : List X) (a n j : ℕ) (d : X) → j < length ys → a ≤ length xs
    → get_or (put_mid a n xs ys) (a + j) d ≡ get_or ys j d
get_or-inside xs ys a n j d inside within =
    let long : length (take a xs) ≡ a = length-take-le a xs within in
    let place : a + j - a ≡ j = omega arith in
    get_or-append_right (take a xs) _ a (a + j) d long (omega arith)
    ∙ ap (λ (i : ℕ). get_or (ys ++ drop n (drop a xs)) i d) place
    ∙ get_or_append_left ys (drop n (drop a xs)) d j inside

-- behind it
pub get_or-behind : {X : Type 0} (xs ys : List X) (a n k : ℕ) (d : X) → length ys ≡ n → a + n ≤ k → a ≤ length xs
    → get_or (put_mid a n xs ys) k d ≡ get_or xs k d
get_or-behind xs ys a n k d size behind within =
    let long : length (take a xs) ≡ a = length-take-le a xs within in
    let place : a + (n + (k - a - n)) ≡ k = omega arith in
    get_or-append_right (take a xs) _ a k d long (omega arith)
    ∙ get_or-append_right ys (drop n (drop a xs)) n (k - a) d size (omega arith)
    ∙ get_or-drop n (drop a xs) (k - a - n) d
    ∙ get_or-drop a xs (n + (k - a - n)) d
    ∙ ap (λ (i : ℕ). get_or xs i d) place

-- it has as many items as before
pub length-written : {X : Type 0} (xs ys : List X) (a n : ℕ) → length ys ≡ n → a + n ≤ length xs
    → length (put_mid a n xs ys) ≡ length xs
length-written xs ys a n size within =
    let front : length (take a xs) ≡ a = length-take-le a xs (omega arith) in
    length-append (take a xs) (ys ++ drop n (drop a xs))
    ∙ omega (arith, front, size, length-append ys (drop n (drop a xs)), length-drop n (drop a xs), length-drop a xs)

-- the part itself
pub length-part : {X : Type 0} (xs : List X) (a n : ℕ) → a + n ≤ length xs → length (take n (drop a xs)) ≡ n
length-part xs a n within = length-take-le n (drop a xs) (omega (arith, length-drop a xs))

-- where number k of the list stands in the part, from `at` up to `end` as the list begins with `from`
pub in_part : (from at end k : ℕ) → from ≤ at → at ≤ from + k → from + k < end → (k ≡ at - from + (k - (at - from))) × (k - (at - from) < end - at)
in_part from at end k begun late before = (omega arith, omega arith)
