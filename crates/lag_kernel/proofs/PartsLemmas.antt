-- The sums over the components of values are those over the values.
use Rattle.std.specs.Prelude.{IfSome}
use Rattle.std.proofs.Common.{◌≡◌, ◌≢◌, ℕ, zero, suc, ◌+◌, ◌*◌, ◌<◌, ◌≤◌, ℤ, pos, ◌+ℤ◌, ◌-ℤ◌, ◌*ℤ◌, neg_ℤ, ◌≤ℤ◌, List, length, set, get_or, take, drop, replicate, Some, None, refl, sym, ap, ◌∙◌, subst, arith, ⊎_elim, get_or-set_other, length-set, add-one}
use Rattle.std.proofs.lemmas.Bool.{cases_lt}
use Rattle.std.proofs.lemmas.Int.{ints}
use Rattle.std.proofs.lemmas.List.{get_or-take, get_or-drop, get_or_past, get_or-replicate, length-replicate}
use Rattle.corr_model.specs.declared.cell.Cell.{Cell}
use Rattle.corr_model.specs.Cell.{Value, cell_plus, product_of, AreSmall, IsSmall}
use Rattle.corr_model.proofs.CellLemmas.{IsGrown, same_cell}
use Rattle.lag_kernel.specs.declared.parts.Parts.{Parts}
use Rattle.lag_kernel.specs.Held.{AllSmall, pairs_sum}
use Rattle.byte_streams.specs.Values.{re_of, im_of, there_of}
use Rattle.lag_kernel.specs.Parts.{HoldsPart, AreParts, AreSmallParts, dot_of, both_of, parts_sum}
use Rattle.lag_kernel.proofs.HeldLemmas.{put_more}

-- a list of 2,048 places that holds a part of each of the first k values, and that of none behind them
pub record FillsTo {X : Type 0} (part : Value → X) (values : List Value) (k : ℕ) (held : List X) : Type 0 where
  pub room : length held ≡ 2048
  pub done : (j : ℕ) → j < k → get_or held j (part None) ≡ part (get_or values j None)
  pub left : (j : ℕ) → k ≤ j → get_or held j (part None) ≡ part None

pub fills-none : {X : Type 0} (part : Value → X) (values : List Value) → FillsTo part values 0 (replicate 2048 (part None))
fills-none part values = by 2048 refl
  where
    by : (size : ℕ) → size ≡ 2048 → FillsTo part values 0 (replicate size (part None))
    by size is = record {
      room = length-replicate size (part None) ∙ is;
      done = λ j h. absurd (omega arith);
      left = λ j h.
          ⊎_elim
          (λ there. get_or-replicate size j (part None) (part None) there)
          (λ past. get_or_past (replicate size (part None)) j (part None) (omega (arith, length-replicate size (part None))))
          (cases_lt j size);
    }

pub fills-more : {X : Type 0} (part : Value → X) (values : List Value) (k : ℕ) (held : List X) (v : X)
    → FillsTo part values k held
    → k < 2048
    → v ≡ part (get_or values k None)
    → FillsTo part values (k + 1) (set held k v)
fills-more part values k held v so_far within is =
    let inside : k < length held = omega (arith, so_far.room, within) in
    record {
      room = length-set held k v ∙ so_far.room;
      done = put_more (λ j x. x ≡ part (get_or values j None)) held k v (part None) inside so_far.done is;
      left = λ j h. let ne : j ≢ k = omega arith in rw get_or-set_other (so_far.left j (omega arith));
    }

pub fills-all : {X : Type 0} (part : Value → X) (values : List Value) (k : ℕ) (held : List X)
    → FillsTo part values k held
    → length values ≤ k
    → HoldsPart part values held
fills-all part values k held filled all = λ j.
    ⊎_elim
    (λ there. filled.done j there)
    (λ past. filled.left j past ∙ ap part (sym (get_or_past values j None (omega arith))))
    (cases_lt j k)

-- small parts of small values
small_at : (values : List Value) → AllSmall values → (k : ℕ) → IfSome (get_or values k None) AreSmall
small_at values small k =
    ⊎_elim
    (λ there. small k there)
    (λ past. subst (λ (v : Value). IfSome v AreSmall) (sym (get_or_past values k None past)) tt)
    (cases_lt k (length values))

small_re : (v : Value) → IfSome v AreSmall → IsSmall (re_of v)
small_re (Some v) h = h.0
small_re None h = (omega (arith, ints), omega (arith, ints))

small_im : (v : Value) → IfSome v AreSmall → IsSmall (im_of v)
small_im (Some v) h = h.1
small_im None h = (omega (arith, ints), omega (arith, ints))

small_there : (v : Value) → there_of v ≤ 1
small_there (Some v) = omega arith
small_there None = omega arith

pub AreSmallParts-values : (values : List Value) (parts : Parts) → AreParts values parts → AllSmall values → AreSmallParts parts
AreSmallParts-values values parts holds small = record {
  re = λ k. subst IsSmall (sym (holds.re k)) (small_re (get_or values k None) (small_at values small k));
  im = λ k. subst IsSmall (sym (holds.im k)) (small_im (get_or values k None) (small_at values small k));
  there = λ k. subst (λ n. n ≤ 1) (sym (holds.there k)) (small_there (get_or values k None));
}

-- a product from components
product_of-parts : (x y : Value) → product_of x y ≡ record {
  re = re_of x *ℤ re_of y +ℤ im_of x *ℤ im_of y;
  im = im_of x *ℤ re_of y -ℤ re_of x *ℤ im_of y;
  count = there_of x * there_of y;
}
product_of-parts (Some a) (Some b) = refl
product_of-parts (Some a) None = same_cell _ _ _ _ _ _ (omega (arith, ints)) (omega (arith, ints)) (omega arith)
product_of-parts None y = same_cell _ _ _ _ _ _ (omega (arith, ints)) (omega (arith, ints)) (omega arith)

parts-product : (x y : Value) (re im re' im' : ℤ) (there there' : ℕ)
    → re ≡ re_of x → im ≡ im_of x → there ≡ there_of x
    → re' ≡ re_of y → im' ≡ im_of y → there' ≡ there_of y
    → ◌≡◌ {A = Cell} (record { re = re *ℤ re' +ℤ im *ℤ im'; im = im *ℤ re' -ℤ re *ℤ im'; count = there * there' }) (product_of x y)
parts-product x y re im re' im' there there' a b c d e f = rw (a, b, c, d, e, f) (sym (product_of-parts x y))

-- sums of components and one product more
sum-next : (p q r s t u v w : ℤ) (m n : ℕ)
    → ◌≡◌ {A = Cell} (record { re = (p +ℤ t) +ℤ (q +ℤ u); im = (r +ℤ v) -ℤ (s +ℤ w); count = m + n })
    (cell_plus (record { re = p +ℤ q; im = r -ℤ s; count = m }) (record { re = t +ℤ u; im = v -ℤ w; count = n }))
sum-next p q r s t u v w m n = same_cell _ _ _ _ _ _ (omega (arith, ints)) (omega (arith, ints)) refl

-- one product more
pub dot_of-more : (a b : List ℤ) (i k : ℕ) → dot_of a b i (k + 1) ≡ dot_of a b i k +ℤ (get_or a k (pos 0) *ℤ get_or b (i + k) (pos 0))
dot_of-more a b i k = rw add-one refl

pub both_of-more : (a b : List ℕ) (i k : ℕ) → both_of a b i (k + 1) ≡ both_of a b i k + get_or a k 0 * get_or b (i + k) 0
both_of-more a b i k = rw add-one refl

-- what the pairs of values add up to, from their components
pub parts_sum-pairs : (first second : List Value) (a b : Parts) (i n m : ℕ) → AreParts first a → AreParts second b → m ≤ n
    → parts_sum a b i m ≡ pairs_sum first (take n (drop i second)) m
parts_sum-pairs first second a b i n zero holds_a holds_b h = refl
parts_sum-pairs first second a b i n (suc m) holds_a holds_b h =
    let part : List Value = take n (drop i second) in
    let at : get_or part m None ≡ get_or second (i + m) None =
    get_or-take n (drop i second) m None (omega (arith, h)) ∙ get_or-drop i second m None in
    let here : m ≡ 0 + m = omega arith in
    let one = parts-product (get_or first m None) (get_or part m None) _ _ _ _ _ _
    (holds_a.re m) (holds_a.im m) (holds_a.there m)
    (holds_b.re (i + m) ∙ ap re_of (sym at)) (holds_b.im (i + m) ∙ ap im_of (sym at)) (holds_b.there (i + m) ∙ ap there_of (sym at)) in
    sum-next (dot_of a.re b.re i m) (dot_of a.im b.im i m) (dot_of a.im b.re i m) (dot_of a.re b.im i m) _ _ _ _ (both_of a.there b.there i m) _
    ∙ ap (cell_plus (parts_sum a b i m)) one
    ∙ ap (λ (c : Cell). cell_plus c (product_of (get_or first m None) (get_or part m None))) (parts_sum-pairs first second a b i n m holds_a holds_b (omega (arith, h)))
    ∙ ap (λ k. cell_plus (pairs_sum first part m) (product_of (get_or first k None) (get_or part k None))) here

-- what so many pairs add up to, from the bounds of their sums
pub IsGrown-parts : (p q r s : ℤ) (count n : ℕ)
    → neg_ℤ (pos (225 * n)) ≤ℤ p → p ≤ℤ pos (225 * n)
    → neg_ℤ (pos (225 * n)) ≤ℤ q → q ≤ℤ pos (225 * n)
    → neg_ℤ (pos (225 * n)) ≤ℤ r → r ≤ℤ pos (225 * n)
    → neg_ℤ (pos (225 * n)) ≤ℤ s → s ≤ℤ pos (225 * n)
    → count ≤ n
    → IsGrown (record { re = p +ℤ q; im = r -ℤ s; count = count }) n
IsGrown-parts p q r s count n pl ph ql qh rl rh sl sh most = record {
  re_low = omega (arith, ints);
  re_high = omega (arith, ints);
  im_low = omega (arith, ints);
  im_high = omega (arith, ints);
  count = most;
}
