-- Lanes that hold two sums each: a lower one below 64, and an upper one.
use Rattle.std.proofs.Common.{◌≡◌, ℕ, zero, suc, ◌+◌, ◌*◌, ◌/◌, ◌%◌, ◌<◌, ◌≤◌, ◌^◌, List, [], ◌∷◌, map, length, get_or, replicate, bit_and, refl, sym, subst, ap, ◌∙◌, arith, w16, Fits, mul-le-mul}
use Rattle.std.specs.Simd.Lanes.{Each1, Each2, zip2, sum_l}
use Rattle.std.proofs.lemmas.Nat.{and_mask}
use Rattle.std.proofs.lemmas.List.{get_or-map, length-map}
use Rattle.std.proofs.lemmas.Simd.{Each1-zip2, Each2-of, Each1-replicate, length-zip2, sum-zip2, zip2_splat}
use Rattle.byte_sums.specs.Sums.{nat_sum}
use Rattle.byte_sums.specs.Fields.{AreFields, byte_product, triple_product, lower_product, upper_product, lower_sum, upper_sum}
use Rattle.byte_sums.proofs.Chunks.{nat_sum-split, nat_sum-same}
use Rattle.byte_sums.proofs.Small.{list-sum, sum-by_pairs}

pub fit-within : (m n : ℕ) → m + n ≤ 65535 → (xs ys : List ℕ) → Each1 (λ x. x ≤ m) xs → Each1 (λ y. y ≤ n) ys → Each2 (λ x y. Fits w16 (x + y)) xs ys
fit-within m n le xs ys p q = Each2-of (λ x. x ≤ m) (λ y. y ≤ n) (λ x y. Fits w16 (x + y)) (λ x y h k. record { fits = omega (arith, h, k, le) }) xs ys p q

pub sums-within : (m n : ℕ) (xs ys : List ℕ) → Each1 (λ x. x ≤ m) xs → Each1 (λ y. y ≤ n) ys → Each1 (λ x. x ≤ m + n) (zip2 (λ x y. x + y) xs ys)
sums-within m n xs ys p q =
    Each1-zip2 (λ (x y : ℕ). x + y) (λ x. x ≤ m + n) xs ys
    (Each2-of (λ x. x ≤ m) (λ y. y ≤ n) (λ x y. x + y ≤ m + n) (λ x y h k. omega (arith, h, k)) xs ys p q)

each-map : (f : ℕ → ℕ) (P Q : ℕ → Type 0) → ((x : ℕ) → P x → Q (f x)) → (xs : List ℕ) → Each1 P xs → Each1 Q (map f xs)
each-map f P Q h [] e = tt
each-map f P Q h (x ∷ xs) e = (h x e.0, each-map f P Q h xs e.1)

-- ---- a vector is taken apart

pub lowers : (t : List ℕ) → length t ≡ 16 → zip2 bit_and t (replicate 16 63) ≡ map (λ n. n % 64) t
lowers t long = zip2_splat bit_and t 16 63 long ∙ (λ i. map (λ x. and_mask x 6 i) t)

pub uppers : (t : List ℕ) → length t ≡ 16 → zip2 (λ x s. x / 2 ^ s) t (replicate 16 6) ≡ map (λ n. n / 64) t
uppers t long = zip2_splat (λ x s. x / 2 ^ s) t 16 6 long

pub lowers-small : (t : List ℕ) → Each1 (λ n. n ≤ 4590) t → Each1 (λ n. n ≤ 75) (map (λ n. n % 64) t)
lowers-small t h = each-map (λ n. n % 64) (λ n. n ≤ 4590) (λ n. n ≤ 75) (λ x p. omega arith) t h

pub uppers-small : (t : List ℕ) → Each1 (λ n. n ≤ 4590) t → Each1 (λ n. n ≤ 75) (map (λ n. n / 64) t)
uppers-small t h = each-map (λ n. n / 64) (λ n. n ≤ 4590) (λ n. n ≤ 75) (λ x p. omega (arith, p)) t h

module _ (s l t : List ℕ) (f : ℕ → ℕ) (is : l ≡ map f t) (s_len : length s ≡ 16) (t_len : length t ≡ 16) where
  m_len : length (map f t) ≡ 16
  m_len = length-map t f ∙ t_len

  pub added-value : sum_l (zip2 (λ x y. x + y) s l) ≡ sum_l s + sum_l (map f t)
  added-value = ap (λ z. sum_l (zip2 (λ x y. x + y) s z)) is ∙ sum-zip2 s (map f t) (s_len ∙ sym m_len)

  pub added-len : length (zip2 (λ (x y : ℕ). x + y) s l) ≡ 16
  added-len = ap (λ z. length (zip2 (λ (x y : ℕ). x + y) s z)) is ∙ length-zip2 (λ (x y : ℕ). x + y) s (map f t) (s_len ∙ sym m_len) ∙ s_len

  pub added-within : (most : ℕ) → Each1 (λ n. n ≤ most) s → Each1 (λ n. n ≤ 75) (map f t) → Each1 (λ n. n ≤ most + 75) (zip2 (λ x y. x + y) s l)
  added-within most p q = subst (λ z. Each1 (λ n. n ≤ most + 75) (zip2 (λ x y. x + y) s z)) (sym is) (sums-within most 75 s (map f t) p q)

  pub added-fits : Each1 (λ n. n ≤ 60000) s → Each1 (λ n. n ≤ 75) (map f t) → Each2 (λ x y. Fits w16 (x + y)) s l
  added-fits p q = subst (λ z. Each2 (λ x y. Fits w16 (x + y)) s z) (sym is) (fit-within 60000 75 (omega arith) s (map f t) p q)

-- ---- products

pub byte-within : (x y : ℕ) → x < 256 → y ≤ 3 → x * y ≤ 765
byte-within x y p q =
    let a : x ≤ 255 = omega (arith, p) in omega (arith, mul-le-mul a q)

small-product : (x y : ℕ) → x ≤ 3 → y ≤ 3 → x * y ≤ 9
small-product x y p q = omega (arith, mul-le-mul p q)

-- a product with both numbers of a byte
parts : (x y : ℕ) → y ≤ 3 → x * y ≡ y * (x % 64) + 64 * (y * (x / 64))
parts x zero p = omega arith
parts x (suc zero) p = omega arith
parts x (suc (suc zero)) p = omega arith
parts x (suc (suc (suc zero))) p = omega arith
parts x (suc (suc (suc (suc y)))) p = absurd (omega (arith, p))

-- six products in a lane
apart : (t l u : ℕ) → t ≡ l + 64 * u → l < 64 → (t % 64 ≡ l) × (t / 64 ≡ u)
apart t l u e lt = (omega (arith, e, lt), omega (arith, e, lt))

nat_sum-add : (f g : ℕ → ℕ) (n : ℕ) → nat_sum (λ k. f k + g k) n ≡ nat_sum f n + nat_sum g n
unfolding nat_sum
nat_sum-add f g zero = refl
nat_sum-add f g (suc n) = omega (arith, nat_sum-add f g n)

-- the sums of neighbours of three vectors
abbrev pub triple_of : (ℕ → ℕ) → ℕ → ℕ → ℕ
triple_of f from k = (f (from + 2 * k) + f (from + (2 * k + 1))) + (f (from + 32 + 2 * k) + f (from + 32 + (2 * k + 1))) + (f (from + 64 + 2 * k) + f (from + 64 + (2 * k + 1)))

abbrev pair_sum_of : (ℕ → ℕ) → ℕ → ℕ → ℕ
pair_sum_of f from k = f (from + 2 * k) + f (from + (2 * k + 1))

vector-sum : (f : ℕ → ℕ) (from : ℕ) → nat_sum f (from + 32) ≡ nat_sum f from + nat_sum (pair_sum_of f from) 16
vector-sum f from = nat_sum-split f from 32 ∙ ap (λ s. nat_sum f from + s) (sum-by_pairs (λ i. f (from + i)) 16)

three-sums : (f : ℕ → ℕ) (from : ℕ) → nat_sum f (from + 96) ≡ nat_sum f from + nat_sum (triple_of f from) 16
three-sums f from =
    let x = pair_sum_of f from in
    let y = pair_sum_of f (from + 32) in
    let z = pair_sum_of f (from + 64) in
    let second : from + 64 ≡ from + 32 + 32 = omega arith in
    let third : from + 96 ≡ from + 64 + 32 = omega arith in
    let first_is = vector-sum f from in
    let second_is : nat_sum f (from + 64) ≡ nat_sum f (from + 32) + nat_sum y 16 = ap (nat_sum f) second ∙ vector-sum f (from + 32) in
    let third_is : nat_sum f (from + 96) ≡ nat_sum f (from + 64) + nat_sum z 16 = ap (nat_sum f) third ∙ vector-sum f (from + 64) in
    let all : nat_sum (triple_of f from) 16 ≡ nat_sum (λ k. x k + y k) 16 + nat_sum z 16 = nat_sum-add (λ k. x k + y k) z 16 in
    let two : nat_sum (λ k. x k + y k) 16 ≡ nat_sum x 16 + nat_sum y 16 = nat_sum-add x y 16 in
    omega (arith, first_is, second_is, third_is, all, two)

-- lanes, as a sum over places
lane-sum : (xs : List ℕ) (f : ℕ → ℕ) → length xs ≡ 16 → ((k : ℕ) → k < 16 → get_or xs k 0 ≡ f k) → sum_l xs ≡ nat_sum f 16
lane-sum xs f long is = list-sum xs ∙ ap (nat_sum (λ i. get_or xs i 0)) long ∙ nat_sum-same (λ i. get_or xs i 0) f 16 is

module _ (a b : List ℕ) (lag from : ℕ) (t : List ℕ) (long : length t ≡ 16) (is : (k : ℕ) → k < 16 → get_or t k 0 ≡ triple_product a b lag from k)
    (small : (i : ℕ) → get_or a i 0 ≤ 3) (fields : AreFields b) where
  abbrev lower : ℕ → ℕ
  lower = lower_product a b lag

  abbrev upper : ℕ → ℕ
  upper = upper_product a b lag

  each : (n : ℕ) → (byte_product a b lag n ≡ lower n + 64 * upper n) × (lower n ≤ 9)
  each n = (parts (get_or b (lag + n) 0) (get_or a n 0) (small n), small-product (get_or a n 0) (get_or b (lag + n) 0 % 64) (small n) (fields (lag + n)).0)

  lane : (k : ℕ) → k < 16 → (get_or t k 0 % 64 ≡ triple_of lower from k) × (get_or t k 0 / 64 ≡ triple_of upper from k)
  lane k lt =
      let p = each (from + 2 * k) in
      let q = each (from + (2 * k + 1)) in
      let r = each (from + 32 + 2 * k) in
      let s = each (from + 32 + (2 * k + 1)) in
      let v = each (from + 64 + 2 * k) in
      let w = each (from + 64 + (2 * k + 1)) in
      apart (get_or t k 0) (triple_of lower from k) (triple_of upper from k)
      (omega (arith, is k lt, p.0, q.0, r.0, s.0, v.0, w.0)) (omega (arith, p.1, q.1, r.1, s.1, v.1, w.1))

  pub lower-sum : sum_l (map (λ n. n % 64) t) ≡ nat_sum (triple_of lower from) 16
  lower-sum =
      lane-sum (map (λ n. n % 64) t) (triple_of lower from) (length-map t (λ n. n % 64) ∙ long)
      (λ k lt. get_or-map (λ n. n % 64) t k 0 0 (omega (arith, long, lt)) ∙ (lane k lt).0)

  pub upper-sum : sum_l (map (λ n. n / 64) t) ≡ nat_sum (triple_of upper from) 16
  upper-sum =
      lane-sum (map (λ n. n / 64) t) (triple_of upper from) (length-map t (λ n. n / 64) ∙ long)
      (λ k lt. get_or-map (λ n. n / 64) t k 0 0 (omega (arith, long, lt)) ∙ (lane k lt).1)

-- three vectors more
more : (f : ℕ → ℕ) (i old new sum : ℕ) → old ≡ nat_sum f (96 * i) → new ≡ old + sum → sum ≡ nat_sum (triple_of f (96 * i)) 16 → new ≡ nat_sum f (96 * (i + 1))
more f i old new sum was now is =
    let count : 96 * (i + 1) ≡ 96 * i + 96 = omega arith in
    let after : nat_sum f (96 * (i + 1)) ≡ nat_sum f (96 * i) + nat_sum (triple_of f (96 * i)) 16 = ap (nat_sum f) count ∙ three-sums f (96 * i) in
    omega (arith, was, now, is, after)

pub lower-more : (a b : List ℕ) (lag i : ℕ) (t : List ℕ) → length t ≡ 16 → ((k : ℕ) → k < 16 → get_or t k 0 ≡ triple_product a b lag (96 * i) k)
    → ((j : ℕ) → get_or a j 0 ≤ 3) → AreFields b → (old new : ℕ) → old ≡ lower_sum a b lag (96 * i) → new ≡ old + sum_l (map (λ n. n % 64) t) → new ≡ lower_sum a b lag (96 * (i + 1))
lower-more a b lag i t long is small fields old new was now =
    more (lower_product a b lag) i old new (sum_l (map (λ n. n % 64) t)) was now (lower-sum a b lag (96 * i) t long is small fields)

pub upper-more : (a b : List ℕ) (lag i : ℕ) (t : List ℕ) → length t ≡ 16 → ((k : ℕ) → k < 16 → get_or t k 0 ≡ triple_product a b lag (96 * i) k)
    → ((j : ℕ) → get_or a j 0 ≤ 3) → AreFields b → (old new : ℕ) → old ≡ upper_sum a b lag (96 * i) → new ≡ old + sum_l (map (λ n. n / 64) t) → new ≡ upper_sum a b lag (96 * (i + 1))
upper-more a b lag i t long is small fields old new was now =
    more (upper_product a b lag) i old new (sum_l (map (λ n. n / 64) t)) was now (upper-sum a b lag (96 * i) t long is small fields)

pub none-of : (f : ℕ → ℕ) → 0 ≡ nat_sum f 0
unfolding nat_sum
none-of f = refl

pub still-small : (i : ℕ) (xs : List ℕ) → Each1 (λ n. n ≤ 75 * i + 75) xs → Each1 (λ n. n ≤ 75 * (i + 1)) xs
still-small i xs h = subst (λ m. Each1 (λ n. n ≤ m) xs) (omega arith) h

pub zeros-small : Each1 (λ n. n ≤ 75 * 0) (replicate 16 0)
zeros-small = Each1-replicate (λ n. n ≤ 75 * 0) 16 0 (omega arith)
