-- Lanes of pairs, and how large they are.
use Rattle.std.proofs.Common.{◌≡◌, ℕ, zero, suc, ◌+◌, ◌*◌, ◌<◌, ◌≤◌, List, [], ◌∷◌, length, get_or, replicate, refl, sym, ap, ◌∙◌, arith, w16, w32, Fits, mul-le-mul}
use Rattle.std.specs.Simd.Lanes.{Each1, Each2, zip2, chunk, products, sum_l}
use Rattle.std.proofs.lemmas.Simd.{Each1-chunk, Each1-from_get_or, Each1-weaker, Each1-replicate, Each1-get_or, Each2-of, Each1-zip2}
use Rattle.byte_sums.specs.Sums.{nat_sum}
use Rattle.byte_sums.proofs.Chunks.{nat_sum-same, nat_sum-first, products-sum}

pub chunk-small : (xs : List ℕ) → ((i : ℕ) → get_or xs i 0 ≤ 12) → (at n : ℕ) → Each1 (λ x. x ≤ 12) (chunk at n xs)
chunk-small xs h at n = Each1-chunk (λ x. x ≤ 12) at n xs (Each1-from_get_or (λ x. x ≤ 12) xs 0 (λ i _. h i))

pub small-weights : (xs : List ℕ) → Each1 (λ x. x ≤ 12) xs → Each1 (λ x. x < 65) xs
small-weights xs h = Each1-weaker (λ x. x ≤ 12) (λ x. x < 65) (λ x p. omega (arith, p)) xs h

pub small-bytes : (xs : List ℕ) → Each1 (λ x. x ≤ 12) xs → Each1 (λ x. x < 256) xs
small-bytes xs h = Each1-weaker (λ x. x ≤ 12) (λ x. x < 256) (λ x p. omega (arith, p)) xs h

pub list-sum : (xs : List ℕ) → sum_l xs ≡ nat_sum (λ i. get_or xs i 0) (length xs)
unfolding nat_sum
list-sum [] = refl
list-sum (x ∷ xs) = ap (λ s. x + s) (list-sum xs) ∙ sym (nat_sum-first (λ i. get_or (x ∷ xs) i 0) (length xs))

pub sum-by_pairs : (f : ℕ → ℕ) (n : ℕ) → nat_sum f (2 * n) ≡ nat_sum (λ k. f (2 * k) + f (2 * k + 1)) n
unfolding nat_sum
sum-by_pairs f zero = refl
sum-by_pairs f (suc n) =
    let two : 2 * suc n ≡ suc (suc (2 * n)) = omega arith in
    let odd : suc (2 * n) ≡ 2 * n + 1 = omega arith in
    let last = ap f odd in
    ap (nat_sum f) two ∙ omega (arith, sum-by_pairs f n, last)

abbrev pub pair_at : List ℕ → List ℕ → ℕ → ℕ
pair_at b a k = get_or b (2 * k) 0 * get_or a (2 * k) 0 + get_or b (2 * k + 1) 0 * get_or a (2 * k + 1) 0

pub pairs-sum : (b a lanes : List ℕ) → length b ≡ 32 → length a ≡ 32 → length lanes ≡ 16 → ((k : ℕ) → k < 16 → get_or lanes k 0 ≡ pair_at b a k) → sum_l lanes ≡ sum_l (products b a)
pairs-sum b a lanes p q r is =
    list-sum lanes ∙ ap (nat_sum (λ i. get_or lanes i 0)) r
    ∙ nat_sum-same (λ i. get_or lanes i 0) (pair_at b a) 16 is
    ∙ sym (sum-by_pairs (λ i. get_or b i 0 * get_or a i 0) 16)
    ∙ sym (products-sum b a (p ∙ sym q) ∙ ap (nat_sum (λ i. get_or b i 0 * get_or a i 0)) p)

product_within : (x y : ℕ) → x ≤ 12 → y ≤ 12 → x * y ≤ 144
product_within x y p q = omega (arith, mul-le-mul p q)

pub pairs-small : (b a lanes : List ℕ) → length b ≡ 32 → length a ≡ 32 → Each1 (λ x. x ≤ 12) b → Each1 (λ x. x ≤ 12) a → length lanes ≡ 16
    → ((k : ℕ) → k < 16 → get_or lanes k 0 ≡ pair_at b a k) → Each1 (λ x. x ≤ 288) lanes
pairs-small b a lanes p q s t r is =
    Each1-from_get_or (λ x. x ≤ 288) lanes 0 (λ k lt.
    let small : (xs : List ℕ) → length xs ≡ 32 → Each1 (λ x. x ≤ 12) xs → (j : ℕ) → j < 32 → get_or xs j 0 ≤ 12 = λ xs l h j m. Each1-get_or (λ x. x ≤ 12) xs j 0 (omega arith) h in
    omega (
      arith,
      is k (omega arith),
      product_within _ _ (small b p s (2 * k) (omega arith)) (small a q t (2 * k) (omega arith)),
      product_within _ _ (small b p s (2 * k + 1) (omega arith)) (small a q t (2 * k + 1) (omega arith)),
    ))

pub added-fit : (xs ys : List ℕ) → Each1 (λ x. x ≤ 65000) xs → Each1 (λ y. y ≤ 288) ys → Each2 (λ x y. Fits w16 (x + y)) xs ys
added-fit xs ys p q = Each2-of (λ x. x ≤ 65000) (λ y. y ≤ 288) (λ x y. Fits w16 (x + y)) (λ x y h k. record { fits = omega (arith, h, k) }) xs ys p q

pub added-small : (most : ℕ) (xs ys : List ℕ) → Each1 (λ x. x ≤ most) xs → Each1 (λ y. y ≤ 288) ys → Each1 (λ x. x ≤ most + 288) (zip2 (λ x y. x + y) xs ys)
added-small most xs ys p q =
    Each1-zip2 (λ (x y : ℕ). x + y) (λ x. x ≤ most + 288) xs ys
    (Each2-of (λ x. x ≤ most) (λ y. y ≤ 288) (λ x y. x + y ≤ most + 288) (λ x y h k. omega (arith, h, k)) xs ys p q)

pub wide-fit : (xs : List ℕ) → Each1 (Fits w16) xs → Each1 (Fits w32) xs
wide-fit xs h = Each1-weaker (Fits w16) (Fits w32) (λ x p. record { fits = omega (arith, p.fits) }) xs h

pub lane-most : (xs : List ℕ) → Each1 (Fits w16) xs → Each1 (λ x. x ≤ 65535) xs
lane-most xs h = Each1-weaker (Fits w16) (λ x. x ≤ 65535) (λ x p. omega (arith, p.fits)) xs h

pub weaker : (few most : ℕ) (xs : List ℕ) → few ≤ most → Each1 (λ x. x ≤ few) xs → Each1 (λ x. x ≤ most) xs
weaker few most xs le h = Each1-weaker (λ x. x ≤ few) (λ x. x ≤ most) (λ x p. omega (arith, p, le)) xs h

pub more-small : (i : ℕ) (xs : List ℕ) → Each1 (λ x. x ≤ 288 * i + 288) xs → Each1 (λ x. x ≤ 288 * (i + 1)) xs
more-small i xs h = weaker (288 * i + 288) (288 * (i + 1)) xs (omega arith) h

pub none-small : Each1 (λ x. x ≤ 288 * 0) (replicate 16 0)
none-small = Each1-replicate (λ x. x ≤ 288 * 0) 16 0 (omega arith)
