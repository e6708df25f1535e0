-- A range has one list of stretches, and no second one.
use Rattle.std.proofs.Common.{◌≡◌, ◌≢◌, ℕ, zero, suc, ◌+◌, ◌≤◌, ◌<◌, Bool, true, false, List, [], ◌∷◌, refl, sym, ap, subst, ◌∙◌, ◌⊎◌, inl, inr, arith}
use Rattle.std.proofs.lemmas.Bool.{cases_lt}
use Rattle.std.specs.Bool.{Decides}
use Rattle.delay_line.specs.Stretch.{IsStretch}
use Rattle.delay_laws.specs.Stretches.{Stretch, AreStretches}
use Rattle.delay_laws.proofs.StretchLemmas.{IsFirst, none, first_then_rest, rest_of, first_of}

-- the longest stretch from a sample on has one end
not_before : {X : Type 0} (f : ℕ → X) (from to end other : ℕ) → IsStretch f from to end → IsStretch f from to other → ¬ (end < other)
not_before f from to end other one two before =
    one.longest (omega (arith, before, two.within)) (two.same end (omega (arith, one.after)) before)

end_is_one : {X : Type 0} (f : ℕ → X) (from to end other : ℕ) → IsStretch f from to end → IsStretch f from to other → end ≡ other
end_is_one f from to end other one two =
    let up = not_before f from to end other one two in
    let down = not_before f from to other end two one in
    omega (arith, up, down)

first_is_one : {X : Type 0} (f : ℕ → X) (from to : ℕ) (one other : Stretch X) → IsFirst f from to one → IsFirst f from to other → one ≡ other
first_is_one f from to one other first second =
    let begins : one.from ≡ other.from = first.begins ∙ sym second.begins in
    let ends : one.to ≡ other.to = end_is_one f from to one.to other.to first.stretch second.stretch in
    let value : one.value ≡ other.value = first.value ∙ sym second.value in
    λ i. record { from = begins i; to = ends i; value = value i }

-- any two lists of the stretches of a range are equal
pub only : {X : Type 0} (f : ℕ → X) (from to : ℕ) (one other : List (Stretch X)) → AreStretches f from to one → AreStretches f from to other → one ≡ other
only f from to [] [] are too = refl
only f from to [] (stretch ∷ rest) are too =
    let first = first_of f from to stretch rest too in
    absurd (omega (arith, are.cover, first.stretch.after, first.stretch.within))
only f from to (stretch ∷ rest) [] are too =
    let first = first_of f from to stretch rest are in
    absurd (omega (arith, too.cover, first.stretch.after, first.stretch.within))
only {X = X} f from to (stretch ∷ rest) (other ∷ more) are too =
    let same : stretch ≡ other = first_is_one f from to stretch other (first_of f from to stretch rest are) (first_of f from to other more too) in
    let behind : AreStretches f stretch.to to more = subst (λ (s : Stretch X). AreStretches f s.to to more) (sym same) (rest_of f from to other more too) in
    let tails : rest ≡ more = only f stretch.to to rest more (rest_of f from to stretch rest are) behind in
    λ i. same i ∷ tails i

-- a stretch of one sample, behind which f differs
alone : {X : Type 0} (f : ℕ → X) (from to : ℕ) → from < to → (from + 1 < to → f (from + 1) ≢ f from) → IsFirst f from to (record { from = from; to = from + 1; value = f from })
alone f from to before differs = record {
  begins = refl;
  value = refl;
  stretch = record {
    after = omega arith;
    within = omega (arith, before);
    same = λ n low high. let one : n ≡ from = omega (arith, low, high) in ap f one;
    longest = differs;
  };
}

-- a stretch that begins one sample earlier, at which f is the same
longer : {X : Type 0} (f : ℕ → X) (from to : ℕ) (stretch : Stretch X) → f from ≡ f (from + 1) → IsFirst f (from + 1) to stretch → IsFirst f from to (record { from = from; to = stretch.to; value = f from })
longer f from to stretch same first = record {
  begins = refl;
  value = refl;
  stretch = record {
    after = omega (arith, first.stretch.after);
    within = first.stretch.within;
    same = λ n low high. at n low high (cases_lt from n);
    longest = λ before is. first.stretch.longest before (is ∙ same);
  };
}
  where
    at : (n : ℕ) → from ≤ n → n < stretch.to → (from < n) ⊎ (n ≤ from) → f n ≡ f from
    at n low high (inl behind) = first.stretch.same n (omega (arith, behind)) high ∙ sym same
    at n low high (inr before) = let one : n ≡ from = omega (arith, low, before) in ap f one

module _ {X : Type 0} (eq : X → X → Bool) (decides : (x y : X) → Decides (eq x y) (x ≡ y)) (f : ℕ → X) (to : ℕ) where
  -- the stretches of a range that begins one sample earlier
  earlier : (from : ℕ) (stretches : List (Stretch X)) → from < to → AreStretches f (from + 1) to stretches → (longer : List (Stretch X)) × AreStretches f from to longer
  earlier from [] before are =
      let one : Stretch X = record { from = from; to = from + 1; value = f from } in
      let first = alone f from to before (λ more. absurd (omega (arith, more, are.cover))) in
      (one ∷ [], first_then_rest f from to one [] first are)
  earlier from (stretch ∷ rest) before are = by (eq (f from) (f (from + 1))) refl
    where
      by : (t : Bool) → eq (f from) (f (from + 1)) ≡ t → (longer : List (Stretch X)) × AreStretches f from to longer
      by true is =
          let one : Stretch X = record { from = from; to = stretch.to; value = f from } in
          let first = longer f from to stretch ((decides (f from) (f (from + 1))).0 is) (first_of f (from + 1) to stretch rest are) in
          (one ∷ rest, first_then_rest f from to one rest first (rest_of f (from + 1) to stretch rest are))
      by false is =
          let one : Stretch X = record { from = from; to = from + 1; value = f from } in
          let first = alone f from to before (λ more same. let yes = (decides (f from) (f (from + 1))).1 (sym same) in absurd cc) in
          (one ∷ stretch ∷ rest, first_then_rest f from to one (stretch ∷ rest) first are)

  -- a range has a list of stretches
  pub some_list : (count from : ℕ) → from + count ≡ to → (stretches : List (Stretch X)) × AreStretches f from to stretches
  some_list zero from whole = ([], none f from to (omega (arith, whole)))
  some_list (suc count) from whole =
      let behind = some_list count (from + 1) (omega (arith, whole)) in
      earlier from behind.0 (omega (arith, whole)) behind.1
