-- Rows and stretches of rows that are made.
use Rattle.std.proofs.Common.{◌≡◌, ◌∙◌, refl, sym, ap, subst, ℕ, ◌+◌, ◌-◌, ◌≤◌, ◌<◌, ◌≢◌, ⊎_elim, List, [], ◌∷◌, ◌++◌, length, get_or, set, Option, Vec, Global, All, below_more, arith}
use Rattle.std.proofs.lemmas.Bool.{cases_lt}
use Rattle.std.proofs.lemmas.List.{get_or_append_left, get_or-append_right, get_or-set_same, get_or-set_other, length-append, length-set}
use Rattle.dev_traits.specs.Told.{WhereTold}
use Rattle.corr_model.specs.Files.{Files}
use Rattle.frame_index.proofs.ToldLemmas.{WhereTold-weaker, WhereTold-both, WhereTold-always}
use Rattle.value_codes.specs.Codes.{value_of}
use Rattle.run_sums.specs.declared.making.Making.{Making}
use Rattle.run_sums.specs.Frames.{AreAllMade, AreMade, AreRowsMade, IsMaking, IsRowIn, IsStretch, made_value}

-- ---- stretches of a row

-- one behind the other
pub IsStretch-append : (m : Making) (row start size : ℕ) (xs ys : List ℕ) → length xs ≡ size → IsStretch m row start xs → IsStretch m row (start + size) ys
    → IsStretch m row start (xs ++ ys)
IsStretch-append m row start size xs ys long first last = record {
  made = λ told making.
      WhereTold-both told (AreMade m row (m.from + start) xs) (AreMade m row (m.from + (start + size)) ys) (AreMade m row (m.from + start) (xs ++ ys))
      (λ files a b k h. ⊎_elim
      (λ (under : k < length xs). ap value_of (get_or_append_left xs ys 0 k under) ∙ a k under)
      (λ (late : length xs ≤ k).
      let place : m.from + (start + size) + (k - size) ≡ m.from + start + k = omega (arith, late, long) in
      ap value_of (get_or-append_right xs ys size k 0 long (omega (arith, late, long)))
      ∙ b (k - size) (omega (arith, h, late, long, length-append xs ys))
      ∙ ap (λ (n : ℕ). made_value m row n files) place)
      (cases_lt k (length xs)))
      (first.made told making) (last.made told making);
}

-- ---- rows

pub AreAllMade-none : (m : Making) (first : ℕ) → AreAllMade m first []
AreAllMade-none m first = record {
  long = λ k d h. absurd (omega (arith, h));
  made = λ told making. WhereTold-always told (AreRowsMade m first []) (λ files i d h. absurd (omega (arith, h)));
}

-- some behind others
pub AreAllMade-append : (m : Making) (first size : ℕ) (xs ys : List (Vec ℕ Global)) → length xs ≡ size → AreAllMade m first xs → AreAllMade m (first + size) ys
    → AreAllMade m first (xs ++ ys)
AreAllMade-append m first size xs ys long a b = record {
  long = λ k d h. ⊎_elim
      (λ (under : k < length xs). subst (IsRowIn m) (sym (get_or_append_left xs ys d k under)) (a.long k d under))
      (λ (late : length xs ≤ k).
      subst (IsRowIn m) (sym (get_or-append_right xs ys size k d long (omega (arith, late, long)))) (b.long (k - size) d (omega (arith, h, late, long, length-append xs ys))))
      (cases_lt k (length xs));
  made = λ told making.
      WhereTold-both told (AreRowsMade m first xs) (AreRowsMade m (first + size) ys) (AreRowsMade m first (xs ++ ys))
      (λ files p q i d h. ⊎_elim
      (λ (under : i < length xs). subst (λ (v : Vec ℕ Global). AreMade m (first + i) m.from v.items files) (sym (get_or_append_left xs ys d i under)) (p i d under))
      (λ (late : length xs ≤ i).
      let place : first + size + (i - size) ≡ first + i = omega (arith, late, long) in
      subst (λ (v : Vec ℕ Global). AreMade m (first + i) m.from v.items files) (sym (get_or-append_right xs ys size i d long (omega (arith, late, long))))
      (subst (λ (row : ℕ). AreMade m row m.from (get_or ys (i - size) d).items files) place (q (i - size) d (omega (arith, h, late, long, length-append xs ys)))))
      (cases_lt i (length xs)))
      (a.made told making) (b.made told making);
}

-- a whole row
AreAllMade-one : (m : Making) (first : ℕ) (v : Vec ℕ Global) → IsRowIn m v → IsStretch m first 0 v.items → AreAllMade m first (v ∷ [])
AreAllMade-one m first v long stretch = record {
  long = λ k d h. subst (IsRowIn m) (sym (only k d h)) long;
  made = λ told making.
      WhereTold-weaker told (AreMade m first (m.from + 0) v.items) (AreRowsMade m first (v ∷ []))
      (λ files made i d h.
      let row : first ≡ first + i = omega (arith, h) in
      let from : m.from + 0 ≡ m.from = omega arith in
      subst (λ (w : Vec ℕ Global). AreMade m (first + i) m.from w.items files) (sym (only i d h))
      (subst (λ (r : ℕ). AreMade m r m.from v.items files) row
      (subst (λ (n : ℕ). AreMade m first n v.items files) from made)))
      (stretch.made told making);
}
  where
    only : (k : ℕ) (d : Vec ℕ Global) → k < length (v ∷ []) → get_or (v ∷ []) k d ≡ v
    only k d h = let none : k ≡ 0 = omega (arith, h) in ap (λ (i : ℕ). get_or (v ∷ []) i d) none

pub AreAllMade-cons : (m : Making) (first : ℕ) (v : Vec ℕ Global) (vs : List (Vec ℕ Global)) → IsRowIn m v → IsStretch m first 0 v.items → AreAllMade m (first + 1) vs
    → AreAllMade m first (v ∷ vs)
AreAllMade-cons m first v vs long stretch rest = AreAllMade-append m first 1 (v ∷ []) vs refl (AreAllMade-one m first v long stretch) rest

-- ---- rows that are made one by one

-- the first so many of them are made
pub record AreDone (m : Making) (first count : ℕ) (rows : List (Vec ℕ Global)) : Type 0 where
  pub long : All (IsRowIn m) rows
  pub made : (told : Option Files) → IsMaking told m → WhereTold told (λ files. (k : ℕ) (d : Vec ℕ Global) → k < count → AreMade m (first + k) m.from (get_or rows k d).items files)

pub AreDone-none : (m : Making) (first : ℕ) (rows : List (Vec ℕ Global)) → All (IsRowIn m) rows → AreDone m first 0 rows
AreDone-none m first rows long = record {
  long = long;
  made = λ told making. WhereTold-always told _ (λ files k d h. absurd (omega (arith, h)));
}

-- one more
pub AreDone-next : (m : Making) (first i : ℕ) (rows : List (Vec ℕ Global)) (v : Vec ℕ Global) → i < length rows → IsRowIn m v → IsStretch m (first + i) 0 v.items
    → AreDone m first i rows → AreDone m first (i + 1) (set rows i v)
AreDone-next m first i rows v there long stretch done = record {
  long = λ k d h. ⊎_elim
      (λ (under : k < i). let ne : k ≢ i = omega (arith, under) in
      subst (IsRowIn m) (sym (get_or-set_other rows i k v d ne)) (done.long k d (omega (arith, under, there))))
      (λ (late : i ≤ k). ⊎_elim
      (λ (last : k < i + 1). let same : i ≡ k = omega (arith, late, last) in
      subst (λ (j : ℕ). IsRowIn m (get_or (set rows i v) j d)) same (subst (IsRowIn m) (sym (get_or-set_same rows i v d there)) long))
      (λ (behind : i + 1 ≤ k). let ne : k ≢ i = omega (arith, behind) in
      subst (IsRowIn m) (sym (get_or-set_other rows i k v d ne)) (done.long k d (omega (arith, h, length-set rows i v))))
      (cases_lt k (i + 1)))
      (cases_lt k i);
  made = λ told making.
      WhereTold-both told (λ files. (k : ℕ) (d : Vec ℕ Global) → k < i → AreMade m (first + k) m.from (get_or rows k d).items files)
      (AreMade m (first + i) (m.from + 0) v.items)
      (λ files. (k : ℕ) (d : Vec ℕ Global) → k < i + 1 → AreMade m (first + k) m.from (get_or (set rows i v) k d).items files)
      (λ files were is k d h.
      let from : m.from + 0 ≡ m.from = omega arith in
      below_more (λ j. (e : Vec ℕ Global) → AreMade m (first + j) m.from (get_or (set rows i v) j e).items files) i
      (λ j under e. let ne : j ≢ i = omega (arith, under) in
      subst (λ (w : Vec ℕ Global). AreMade m (first + j) m.from w.items files) (sym (get_or-set_other rows i j v e ne)) (were j e under))
      (λ e. subst (λ (w : Vec ℕ Global). AreMade m (first + i) m.from w.items files) (sym (get_or-set_same rows i v e there))
      (subst (λ (n : ℕ). AreMade m (first + i) n v.items files) from is))
      k h d)
      (done.made told making) (stretch.made told making);
}

-- and all of them
pub AreAllMade-done : (m : Making) (first count : ℕ) (rows : List (Vec ℕ Global)) → count ≡ length rows → AreDone m first count rows → AreAllMade m first rows
AreAllMade-done m first count rows all done = record {
  long = done.long;
  made = λ told making.
      WhereTold-weaker told _ (AreRowsMade m first rows) (λ files made i d h. made i d (omega (arith, all, h))) (done.made told making);
}
