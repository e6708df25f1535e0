-- The first stretch of a range, and those behind it.
use Rattle.std.proofs.Common.{◌≡◌, ◌≢◌, ℕ, zero, suc, ◌+◌, ◌-◌, ◌≤◌, ◌<◌, List, [], ◌∷◌, length, sym, ap, ◌∙◌, arith}
use Rattle.std.specs.List.{All, AllAdjacentBelow}
use Rattle.std.proofs.lemmas.List.Elements.{All-nil, All-cons, All-head, All-tail}
use Rattle.delay_line.specs.Stretch.{IsStretch}
use Rattle.delay_laws.specs.Stretches.{Stretch, LieEndToEnd, HasSample, IsSameOn, DiffersBetween, AreStretches}

-- the first stretch of a range: the longest one from its first sample on
pub record IsFirst {X : Type 0} (f : ℕ → X) (from to : ℕ) (first : Stretch X) : Type 0 where
  pub begins : first.from ≡ from
  pub value : first.value ≡ f from
  pub stretch : IsStretch f from to first.to

AllAdjacentBelow-cons : {X : Type 0} (R : X → X → Type 0) (x y : X) (xs : List X) → R x y → AllAdjacentBelow R (y ∷ xs) (length (y ∷ xs)) → AllAdjacentBelow R (x ∷ y ∷ xs) (length (x ∷ y ∷ xs))
AllAdjacentBelow-cons R x y xs first rest zero d in' = first
AllAdjacentBelow-cons R x y xs first rest (suc k) d in' =
    let next : suc k + 1 ≡ suc (k + 1) = omega arith in
    rw next (rest k d (omega (arith, in')))

AllAdjacentBelow-tail : {X : Type 0} (R : X → X → Type 0) (x : X) (xs : List X) → AllAdjacentBelow R (x ∷ xs) (length (x ∷ xs)) → AllAdjacentBelow R xs (length xs)
AllAdjacentBelow-tail R x xs all k d in' =
    let next : suc k + 1 ≡ suc (k + 1) = omega arith in
    rw next at (all (suc k) d (omega (arith, in')))

-- a range does not end before it begins
range_order : {X : Type 0} (from to : ℕ) (stretches : List (Stretch X)) → LieEndToEnd from to stretches → All HasSample stretches → from ≤ to
range_order from to [] cover some = omega (arith, cover)
range_order from to (stretch ∷ rest) cover some =
    let here = All-head HasSample stretch rest some in
    let behind = range_order stretch.to to rest cover.1 (All-tail HasSample stretch rest some) in
    omega (arith, cover.0, here, behind)

-- no stretch where the range has no sample
pub none : {X : Type 0} (f : ℕ → X) (from to : ℕ) → from ≡ to → AreStretches f from to []
none f from to empty = record {
  cover = empty;
  some = All-nil HasSample;
  same = All-nil (IsSameOn f);
  differ = λ k d in'. absurd (omega (arith, in'));
}

-- the first stretch before those of the range behind it
pub first_then_rest : {X : Type 0} (f : ℕ → X) (from to : ℕ) (stretch : Stretch X) (rest : List (Stretch X)) → IsFirst f from to stretch → AreStretches f stretch.to to rest → AreStretches f from to (stretch ∷ rest)
first_then_rest {X = X} f from to stretch rest first are = record {
  cover = (first.begins, are.cover);
  some = All-cons HasSample stretch rest (rw first.begins first.stretch.after) are.some;
  same = All-cons (IsSameOn f) stretch rest (λ n low high. first.stretch.same n (omega (arith, low, first.begins)) high ∙ sym first.value) are.same;
  differ = borders rest are;
}
  where
    borders : (rest : List (Stretch X)) → AreStretches f stretch.to to rest → AllAdjacentBelow (DiffersBetween f) (stretch ∷ rest) (length (stretch ∷ rest))
    borders [] are = λ k d in'. absurd (omega (arith, in'))
    borders (next ∷ more) are =
        let some = All-head HasSample next more are.some in
        let order = range_order next.to to more are.cover.1 (All-tail HasSample next more are.some) in
        let before : stretch.to < to = omega (arith, some, order, are.cover.0) in
        let last : f (stretch.to - 1) ≡ f from = first.stretch.same (stretch.to - 1) (omega (arith, first.stretch.after)) (omega (arith, first.stretch.after)) in
        AllAdjacentBelow-cons (DiffersBetween f) stretch next more
        (λ same. first.stretch.longest before (ap f (sym are.cover.0) ∙ sym same ∙ last)) are.differ

-- those behind the first are those of the range behind it
pub rest_of : {X : Type 0} (f : ℕ → X) (from to : ℕ) (stretch : Stretch X) (rest : List (Stretch X)) → AreStretches f from to (stretch ∷ rest) → AreStretches f stretch.to to rest
rest_of f from to stretch rest are = record {
  cover = are.cover.1;
  some = All-tail HasSample stretch rest are.some;
  same = All-tail (IsSameOn f) stretch rest are.same;
  differ = AllAdjacentBelow-tail (DiffersBetween f) stretch rest are.differ;
}

pub first_of : {X : Type 0} (f : ℕ → X) (from to : ℕ) (stretch : Stretch X) (rest : List (Stretch X)) → AreStretches f from to (stretch ∷ rest) → IsFirst f from to stretch
first_of {X = X} f from to stretch rest are =
    let some : stretch.from < stretch.to = All-head HasSample stretch rest are.some in
    let same = All-head (IsSameOn f) stretch rest are.same in
    let here : f from ≡ stretch.value = same from (omega (arith, are.cover.0)) (omega (arith, are.cover.0, some)) in
    let last : f (stretch.to - 1) ≡ f from = same (stretch.to - 1) (omega (arith, some)) (omega (arith, some)) ∙ sym here in
    record {
      begins = are.cover.0;
      value = sym here;
      stretch = record {
        after = omega (arith, are.cover.0, some);
        within = range_order stretch.to to rest are.cover.1 (All-tail HasSample stretch rest are.some);
        same = λ n low high. same n (omega (arith, low, are.cover.0)) high ∙ sym here;
        longest = ends rest are last;
      };
    }
  where
    ends : (rest : List (Stretch X)) → AreStretches f from to (stretch ∷ rest) → f (stretch.to - 1) ≡ f from → stretch.to < to → f stretch.to ≢ f from
    ends [] are last before is = absurd (omega (arith, before, are.cover.1))
    ends (next ∷ more) are last before is = are.differ 0 stretch (omega arith) (last ∙ sym is ∙ ap f (sym are.cover.1.0))
