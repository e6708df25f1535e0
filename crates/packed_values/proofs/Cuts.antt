-- The words of a row, also before its first place and past its last one, and their values.
use Rattle.std.proofs.Common.{◌≡◌, ℕ, ◌+◌, ◌-◌, ◌<◌, ◌≤◌, min, List, ◌++◌, length, map, take, drop, get_or, ℤ, pos, negsuc, ◌+ℤ◌, ◌-ℤ◌, ◌<ℤ◌, None, refl, sym, subst, ap, ◌∙◌, arith, inl, inr}
use Rattle.std.proofs.lemmas.Bool.{cases_lt}
use Rattle.std.proofs.lemmas.Int.{ints}
use Rattle.std.proofs.lemmas.List.{get_or_past, get_or_default, get_or-map, length-map, get_or_append_left, get_or-append-add, get_or-take, get_or-drop, length-take-le, length-append, length-drop}
use borrow.Rule.Slice.PartMut.{post_of}
use Rattle.corr_model.specs.Cell.{Value}
use Rattle.value_codes.specs.Codes.{value_of}
use Rattle.packed_values.specs.From.{value_from}
use Rattle.packed_values.specs.Tables.{IsAlong}
use Rattle.packed_values.specs.Words.{word_at}

pub word_at-before : (words : List ℕ) (outside : ℕ) (n : ℤ) → n <ℤ pos 0 → word_at words outside n ≡ outside
word_at-before words outside (pos m) h = omega (arith, ints, h)
word_at-before words outside (negsuc m) h = refl

pub word_at-inside : (words : List ℕ) (outside m : ℕ) (n : ℤ) → pos m ≡ n → m < length words → get_or words m 0 ≡ word_at words outside n
word_at-inside words outside m n e lt = get_or_default words m 0 outside lt ∙ ap (word_at words outside) e

pub word_at-past : (words : List ℕ) (outside m : ℕ) (n : ℤ) → pos m ≡ n → length words ≤ m → word_at words outside n ≡ outside
word_at-past words outside m n e le = ap (word_at words outside) (sym e) ∙ get_or_past words m outside le

-- what holds of each word and of the one outside holds at each place
pub word_at-all : (P : ℕ → Type 0) (words : List ℕ) (outside : ℕ) → ((k : ℕ) → k < length words → P (get_or words k 0)) → P outside
    → (n : ℤ) → P (word_at words outside n)
word_at-all P words outside each out (negsuc m) = out
word_at-all P words outside each out (pos m) =
    elim (cases_lt m (length words)) [
      | inl l ↦ subst P (get_or_default words m 0 outside l) (each m l)
      | inr past ↦ subst P (sym (get_or_past words m outside (omega arith))) out
    ]

-- the value at a place, where the word outside has none
pub value_from-word : (f : ℕ → Value) (words : List ℕ) (outside : ℕ) → f outside ≡ None → (n : ℤ)
    → f (word_at words outside n) ≡ value_from (map f words) n
value_from-word f words outside none (negsuc m) = none
value_from-word f words outside none (pos m) =
    elim (cases_lt m (length words)) [
      | inl l ↦ sym (get_or-map f words m outside None l)
      | inr past ↦ ap f (get_or_past words m outside (omega arith)) ∙ none ∙ sym (get_or_past (map f words) m None (omega (arith, length-map words f)))
    ]

-- a list after a write to its part from a up to b
module _ (xs ys : List ℕ) (a b : ℕ) (order : a ≤ b) (room : b ≤ length xs) (long : length ys ≡ b - a) where
  front : length (take a xs) ≡ a
  front = length-take-le a xs (omega arith)

  pub length-part : length (take a xs ++ (ys ++ post_of a (b - a) xs)) ≡ length xs
  length-part =
      omega (arith, length-append (take a xs) (ys ++ post_of a (b - a) xs), length-append ys (post_of a (b - a) xs), front, long, length-drop (b - a) (drop a xs), length-drop a xs)

  -- each element is what f says, if it is so outside the part and within it
  pub part-all : (f : ℕ → ℕ) → ((k : ℕ) → k < a → get_or xs k 0 ≡ f k) → ((k : ℕ) → b ≤ k → k < length xs → get_or xs k 0 ≡ f k)
      → ((k : ℕ) → k < b - a → get_or ys k 0 ≡ f (a + k))
      → (k : ℕ) → k < length xs → get_or (take a xs ++ (ys ++ post_of a (b - a) xs)) k 0 ≡ f k
  part-all f before behind inside k lt =
      let rest = ys ++ post_of a (b - a) xs in
      elim (cases_lt k a) [
        | inl l ↦ get_or_append_left (take a xs) rest 0 k (omega (arith, front, l)) ∙ get_or-take a xs k 0 l ∙ before k l
        | inr m ↦
            let place : k ≡ length (take a xs) + (k - a) = omega (arith, front, m) in
            ap (λ j. get_or (take a xs ++ rest) j 0) place
            ∙ get_or-append-add (take a xs) rest (k - a) 0
            ∙ elim (cases_lt k b) [
              | inl within ↦
                  get_or_append_left ys (post_of a (b - a) xs) 0 (k - a) (omega (arith, long, m, within))
                  ∙ inside (k - a) (omega (arith, m, within))
                  ∙ ap f (omega (arith, m))
              | inr past ↦
                  let behind_ys : k - a ≡ length ys + (k - b) = omega (arith, long, order, past) in
                  ap (λ j. get_or rest j 0) behind_ys
                  ∙ get_or-append-add ys (post_of a (b - a) xs) (k - b) 0
                  ∙ get_or-drop (b - a) (drop a xs) (k - b) 0
                  ∙ get_or-drop a xs ((b - a) + (k - b)) 0
                  ∙ ap (λ j. get_or xs j 0) (omega (arith, order, past))
                  ∙ behind k past lt
            ]
      ]

-- a stream of what g makes of codes: filled outside the part from `first` up to `last`, and written to in the part
pub record Filled (g : ℕ → ℕ) (outside first last n : ℕ) (inside xs ys : List ℕ) : Type 0 where
  pub long : length xs ≡ n
  pub before : (k : ℕ) → k < first → get_or xs k 0 ≡ outside
  pub behind : (k : ℕ) → last ≤ k → k < n → get_or xs k 0 ≡ outside
  pub long_part : length ys ≡ length inside
  pub part : (k : ℕ) → k < length inside → get_or ys k 0 ≡ g (get_or inside k 0)

-- The codes of a cut of n places, from place `first` up to, not including, `last`
module _ (codes : List ℕ) (first last n : ℕ) (is_last : last ≡ first + length codes) (room : last ≤ n) where
  pub code-before : (k : ℕ) → k < first → word_at codes 0 (pos k -ℤ pos first) ≡ 0
  code-before k lt = word_at-before codes 0 (pos k -ℤ pos first) (omega (arith, ints, lt))

  pub code-past : (k : ℕ) → last ≤ k → word_at codes 0 (pos k -ℤ pos first) ≡ 0
  code-past k le = word_at-past codes 0 (k - first) (pos k -ℤ pos first) (omega (arith, ints, is_last, le)) (omega (arith, is_last, le))

  pub code-inside : (k : ℕ) → k < length codes → get_or codes k 0 ≡ word_at codes 0 (pos (first + k) -ℤ pos first)
  code-inside k lt = word_at-inside codes 0 k (pos (first + k) -ℤ pos first) (omega (arith, ints)) lt

  module _ (g : ℕ → ℕ) (outside : ℕ) (xs ys : List ℕ) (outside_is : g 0 ≡ outside) (filled : Filled g outside first last n codes xs ys) where
    long : length ys ≡ last - first
    long = omega (arith, filled.long_part, is_last)

    pub length-filled : length (take first xs ++ (ys ++ post_of first (last - first) xs)) ≡ n
    length-filled = length-part xs ys first last (omega (arith, is_last)) (omega (arith, filled.long, room)) long ∙ filled.long

    pub filled-at : (k : ℕ) → k < n → get_or (take first xs ++ (ys ++ post_of first (last - first) xs)) k 0 ≡ g (word_at codes 0 (pos k -ℤ pos first))
    filled-at k lt =
        part-all xs ys first last (omega (arith, is_last)) (omega (arith, filled.long, room)) long (λ j. g (word_at codes 0 (pos j -ℤ pos first)))
        (λ j l. filled.before j l ∙ sym outside_is ∙ ap g (sym (code-before j l)))
        (λ j le l. filled.behind j le (omega (arith, l, filled.long)) ∙ sym outside_is ∙ ap g (sym (code-past j le)))
        (λ j l. let within : j < length codes = omega (arith, l, is_last) in filled.part j within ∙ ap g (code-inside j within))
        k (omega (arith, lt, filled.long))

-- The codes of a cut of n places from `start` on: those from `first` up to, not including, `last` lie in the row, from place `from` on.
module _
    (codes : List ℕ) (start : ℤ) (before place from first last n : ℕ) (negative : (k : ℕ) → k < before → (start +ℤ pos k) <ℤ pos 0)
    (at : pos place ≡ start +ℤ pos before) (is_from : from ≡ min place (length codes)) (is_first : first ≡ min before n)
    (is_last : last ≡ min (first + (length codes - from)) n) where
  abbrev inside : List ℕ
  inside = take ((from + (last - first)) - from) (drop from codes)

  pub length-inside : length inside ≡ last - first
  length-inside =
      let room : (from + (last - first)) - from ≤ length (drop from codes) = omega (arith, length-drop from codes, is_from, is_last) in
      omega (arith, length-take-le ((from + (last - first)) - from) (drop from codes) room)

  row-before : (k : ℕ) → k < first → word_at codes 0 (start +ℤ pos k) ≡ 0
  row-before k lt = word_at-before codes 0 (start +ℤ pos k) (negative k (omega (arith, is_first, lt)))

  row-past : (k : ℕ) → last ≤ k → k < n → word_at codes 0 (start +ℤ pos k) ≡ 0
  row-past k le lt =
      let from_before : before ≤ k = omega (arith, is_first, is_last, le, lt) in
      word_at-past codes 0 (place + (k - before)) (start +ℤ pos k) (omega (arith, ints, at, from_before)) (omega (arith, is_from, is_first, is_last, le, lt))

  row-inside : (k : ℕ) → k < last - first → get_or inside k 0 ≡ word_at codes 0 (start +ℤ pos (first + k))
  row-inside k lt =
      let same_place : from ≡ place = omega (arith, is_from, is_last, lt) in
      let same_first : first ≡ before = omega (arith, is_first, is_last, lt) in
      get_or-take ((from + (last - first)) - from) (drop from codes) k 0 (omega (arith, lt))
      ∙ get_or-drop from codes k 0
      ∙ word_at-inside codes 0 (from + k) (start +ℤ pos (first + k)) (omega (arith, ints, at, same_place, same_first)) (omega (arith, is_from, is_last, lt))

  ends : last ≡ first + length inside
  ends = omega (arith, length-inside, is_first, is_last)

  -- the code at a place
  pub code-cut : (k : ℕ) → k < n → word_at inside 0 (pos k -ℤ pos first) ≡ word_at codes 0 (start +ℤ pos k)
  code-cut k lt =
      let room : last ≤ n = omega (arith, is_last) in
      elim (cases_lt k first) [
        | inl l ↦ code-before inside first last n ends room k l ∙ sym (row-before k l)
        | inr m ↦
            elim (cases_lt k last) [
              | inl within ↦
                  let back : first + (k - first) ≡ k = omega (arith, m) in
                  let part : k - first < last - first = omega (arith, m, within) in
                  subst (λ j. word_at inside 0 (pos j -ℤ pos first) ≡ word_at codes 0 (start +ℤ pos j)) back
                  (sym (code-inside inside first last n ends room (k - first) (omega (arith, part, length-inside))) ∙ row-inside (k - first) part)
              | inr past ↦ code-past inside first last n ends room k past ∙ sym (row-past k past lt)
            ]
      ]

-- the values of codes that are those of a row from `start` on
module _
    (inside codes : List ℕ) (first n : ℕ) (start : ℤ)
    (same : (k : ℕ) → k < n → word_at inside 0 (pos k -ℤ pos first) ≡ word_at codes 0 (start +ℤ pos k)) where
  pub cut-value : (k : ℕ) → k < n → value_of (word_at inside 0 (pos k -ℤ pos first)) ≡ value_from (map value_of codes) (start +ℤ pos k)
  cut-value k lt = ap value_of (same k lt) ∙ value_from-word value_of codes 0 refl (start +ℤ pos k)

  -- where all places lie in the row
  pub whole-value : first + length inside ≤ n → length inside ≡ n → (k : ℕ) → k < n
      → value_of (get_or inside k 0) ≡ value_from (map value_of codes) (start +ℤ pos k)
  whole-value room whole k lt =
      ap value_of (word_at-inside inside 0 k (pos k -ℤ pos first) (omega (arith, ints, room, whole)) (omega (arith, whole, lt))) ∙ cut-value k lt

  -- what holds of each code of the cut holds of each code inside
  pub inside-all : first + length inside ≤ n → (P : ℕ → Type 0) → ((k : ℕ) → k < n → P (word_at codes 0 (start +ℤ pos k)))
      → (k : ℕ) → k < length inside → P (get_or inside k 0)
  inside-all room P all k lt =
      let within : first + k < n = omega (arith, room, lt) in
      subst P (sym (code-inside inside first (first + length inside) n refl room k lt ∙ same (first + k) within)) (all (first + k) within)

  -- where all codes of the cut have values, all its places lie in the row
  pub whole-along : first + length inside ≤ n → 0 < n → (d : ℕ) → ((k : ℕ) → k < n → IsAlong d (word_at codes 0 (start +ℤ pos k))) → length inside ≡ n
  whole-along room some d along =
      let last = first + length inside in
      let there : (k : ℕ) → k < n → word_at inside 0 (pos k -ℤ pos first) ≡ 0 → ⊥ =
      λ k lt none. let zero = subst (IsAlong d) (sym (same k lt) ∙ none) (along k lt) in omega (arith, zero.0) in
      elim (cases_lt 0 first) [
        | inl before ↦ absurd (there 0 some (code-before inside first last n refl room 0 before))
        | inr front ↦
            elim (cases_lt last n) [
              | inl behind ↦ absurd (there last behind (code-past inside first last n refl room last (omega arith)))
              | inr full ↦ omega (arith, front, full, room)
            ]
      ]
