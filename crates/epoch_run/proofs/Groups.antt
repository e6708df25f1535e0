-- A sum over the pieces of one group.
use Rattle.std.specs.Prelude.{if◌then◌else◌}
use Rattle.std.proofs.Common.{◌≡◌, ◌≢◌, ℕ, zero, suc, ◌+◌, ◌-◌, ◌*◌, ◌/◌, ◌≤◌, ◌<◌, Bool, eqb, eq-eqb, ne_eqb, refl, ap, ◌∙◌, arith}
use Rattle.std.proofs.lemmas.Nat.{div-add-mod'}
use Rattle.std.proofs.Math.Nat.{mod-lt}
use Rattle.piece_claim.specs.State.{sum_below}
use Rattle.piece_claim.proofs.Numbers.{sum_below-agree, sum_below-zero}
use Rattle.piece_plan.proofs.Quotients.{quotient_is}

-- the sum over a + b numbers, split after a
sum_below-split : (f : ℕ → ℕ) (a b : ℕ) → sum_below f (a + b) ≡ sum_below f a + sum_below (λ k. f (a + k)) b
sum_below-split f a zero =
    let here : a + zero ≡ a = omega arith in
    let none : sum_below f a ≡ sum_below f a + 0 = omega arith in
    ap (sum_below f) here ∙ none
sum_below-split f a (suc b) =
    let here : a + suc b ≡ suc (a + b) = omega arith in
    let last : sum_below f (suc (a + b)) ≡ sum_below f (a + b) + f (a + b) = refl in
    ap (sum_below f) here ∙ last ∙ omega (arith, sum_below-split f a b)

module _ (h : ℕ → ℕ) (per g : ℕ) (some : 0 < per) where
  -- what a number adds to the sum of group g
  abbrev pub in_group : ℕ → ℕ
  in_group n = if eqb (n / per) g then h n else 0

  in_group-other : (n : ℕ) → n / per ≢ g → in_group n ≡ 0
  in_group-other n differ = ap (λ (b : Bool). if b then h n else 0) (ne_eqb (n / per) g differ)

  in_group-same : (n : ℕ) → n / per ≡ g → in_group n ≡ h n
  in_group-same n same = ap (λ (b : Bool). if b then h n else 0) (eq-eqb (n / per) g same)

  low : (n : ℕ) → n < g * per → n / per ≢ g
  low n lt e =
      let whole = div-add-mod' n per in
      let same : n / per * per ≡ g * per = ap (λ (q : ℕ). q * per) e in
      omega (arith, whole, same, lt)

  high : (n : ℕ) → g * per + per ≤ n → n / per ≢ g
  high n le e =
      let whole = div-add-mod' n per in
      let rest = mod-lt n some in
      let same : n / per * per ≡ g * per = ap (λ (q : ℕ). q * per) e in
      omega (arith, whole, same, le, rest)

  -- the numbers of group g are `per` numbers from g * per on
  pub sum_below-group : (groups : ℕ) → g < groups → sum_below in_group (groups * per) ≡ sum_below (λ k. h (g * per + k)) per
  sum_below-group groups inside =
      let rest : ℕ = (groups - g - 1) * per in
      let all : groups ≡ g + 1 + (groups - g - 1) = omega (arith, inside) in
      let whole : groups * per ≡ g * per + (per + rest) = ap (λ (n : ℕ). n * per) all ∙ omega arith in
      ap (sum_below in_group) whole
      ∙ sum_below-split in_group (g * per) (per + rest)
      ∙ omega (
        arith,
        sum_below-zero in_group (g * per) (λ n lt. in_group-other n (low n lt)),
        sum_below-split (λ k. in_group (g * per + k)) per rest,
        sum_below-agree (λ k. in_group (g * per + k)) (λ k. h (g * per + k)) per
            (λ k lt. in_group-same (g * per + k) (quotient_is (g * per + k) per g k refl lt).0),
        sum_below-zero (λ k. in_group (g * per + (per + k))) rest
            (λ k lt. in_group-other (g * per + (per + k)) (high (g * per + (per + k)) (omega arith))),
      )
