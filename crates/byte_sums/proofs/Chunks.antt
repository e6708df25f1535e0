-- The products of two chunks, as a part of a sum.
use Rattle.std.proofs.Common.{◌≡◌, ℕ, zero, suc, ◌+◌, ◌*◌, ◌<◌, ◌≤◌, ◌^◌, List, [], ◌∷◌, length, get_or, refl, sym, ap, ap₂, ◌∙◌, arith, w8, w32, Fits, mul-le-mul, mul_comm, add_assoc, add-zero, add-suc, add-one}
use Rattle.std.specs.Simd.Lanes.{chunk, products, sum_l, dots, zip2, Each1, Each2}
use Rattle.std.proofs.lemmas.Simd.{length-chunk, get_or-chunk, length-zip2, sum_dots, sum-zip2, sum_bound, products_bound, below_from_Fits, adds_fit}
use Rattle.byte_sums.proofs.Weights.{all_below-each}
use Rattle.byte_sums.specs.Sums.{nat_sum, lag_product, lag_sum}

pub nat_sum-split : (f : ℕ → ℕ) (a b : ℕ) → nat_sum f (a + b) ≡ nat_sum f a + nat_sum (λ i. f (a + i)) b
unfolding nat_sum
nat_sum-split f a zero = rw (add-zero a) (omega arith)
nat_sum-split f a (suc b) =
    rw add-suc (rw (nat_sum-split f a b) (omega arith))

-- the first apart
pub nat_sum-first : (f : ℕ → ℕ) (n : ℕ) → nat_sum f (suc n) ≡ f 0 + nat_sum (λ i. f (suc i)) n
unfolding nat_sum
nat_sum-first f zero = omega arith
nat_sum-first f (suc n) = omega (arith, nat_sum-first f n)

pub nat_sum-same : (f g : ℕ → ℕ) (n : ℕ) → ((i : ℕ) → i < n → f i ≡ g i) → nat_sum f n ≡ nat_sum g n
unfolding nat_sum
nat_sum-same f g zero h = refl
nat_sum-same f g (suc n) h = omega (arith, nat_sum-same f g n (λ i k. h i (omega arith)), h n (omega arith))

pub nat_sum-within : (f : ℕ → ℕ) (bound n : ℕ) → ((i : ℕ) → i < n → f i ≤ bound) → nat_sum f n ≤ bound * n
unfolding nat_sum
nat_sum-within f bound zero h = omega arith
nat_sum-within f bound (suc n) h = omega (arith, nat_sum-within f bound n (λ i k. h i (omega arith)), h n (omega arith))

-- the products of two lists of one length
pub products-sum : (xs ys : List ℕ) → length xs ≡ length ys → sum_l (products xs ys) ≡ nat_sum (λ i. get_or xs i 0 * get_or ys i 0) (length xs)
unfolding nat_sum
products-sum [] ys e = refl
products-sum (x ∷ xs) [] e = absurd (omega arith)
products-sum (x ∷ xs) (y ∷ ys) e =
    let f : ℕ → ℕ = λ i. get_or (x ∷ xs) i 0 * get_or (y ∷ ys) i 0 in
    let rest = products-sum xs ys (omega arith) in
    ap (λ s. x * y + s) rest ∙ sym (nat_sum-first f (length xs))

-- so much more of a lag's sum
pub chunk-sum : (a b : List ℕ) (lag from n : ℕ) → from + n ≤ length a → lag + from + n ≤ length b
    → lag_sum a b lag (from + n) ≡ lag_sum a b lag from + sum_l (products (chunk (lag + from) n b) (chunk from n a))
chunk-sum a b lag from n p q =
    let f : ℕ → ℕ = lag_product a b lag in
    let xs = chunk (lag + from) n b in
    let ys = chunk from n a in
    let lx : length xs ≡ n = length-chunk (lag + from) n b q in
    let ly : length ys ≡ n = length-chunk from n a p in
    let sums : sum_l (products xs ys) ≡ nat_sum (λ i. get_or xs i 0 * get_or ys i 0) n =
    products-sum xs ys (lx ∙ sym ly) ∙ ap (nat_sum (λ i. get_or xs i 0 * get_or ys i 0)) lx in
    let here : nat_sum (λ i. get_or xs i 0 * get_or ys i 0) n ≡ nat_sum (λ i. f (from + i)) n =
    nat_sum-same (λ i. get_or xs i 0 * get_or ys i 0) (λ i. f (from + i)) n (λ i lt.
    ap₂ (λ (x y : ℕ). x * y) (get_or-chunk (lag + from) n b i 0 lt) (get_or-chunk from n a i 0 lt)
    ∙ mul_comm (get_or b (lag + from + i) 0) (get_or a (from + i) 0)
    ∙ ap (λ k. get_or a (from + i) 0 * get_or b k 0) (add_assoc lag from i)) in
    omega (arith, nat_sum-split f from n, sums, here)

-- a vector more of a lag's sum
pub vector-more : (a b : List ℕ) (lag i place old new : ℕ) (weights : List ℕ) → 32 * i + 32 ≤ length a → lag + 32 * i + 32 ≤ length b → place ≡ lag + 32 * i
    → weights ≡ chunk (32 * i) 32 a → old ≡ lag_sum a b lag (32 * i) → new ≡ old + sum_l (products (chunk place 32 b) weights)
    → new ≡ lag_sum a b lag (32 * (i + 1))
vector-more a b lag i place old new weights p q at is was now =
    let count : 32 * (i + 1) ≡ 32 * i + 32 = omega arith in
    now
    ∙ ap₂ (λ (x y : ℕ). x + y) was (ap₂ (λ (at : ℕ) (ws : List ℕ). sum_l (products (chunk at 32 b) ws)) at is)
    ∙ sym (chunk-sum a b lag (32 * i) 32 p q)
    ∙ ap (lag_sum a b lag) (sym count)

pub lag_sum-none : (a b : List ℕ) (lag : ℕ) → 0 ≡ lag_sum a b lag 0
unfolding nat_sum
lag_sum-none a b lag = refl

-- the sums at four lags over so many of a's places, in so many lanes each
pub record FourSums (lanes : ℕ) (a b : List ℕ) (at n : ℕ) (v w x y : List ℕ) : Type 0 where
  pub first : sum_l v ≡ lag_sum a b at n
  pub second : sum_l w ≡ lag_sum a b (at + 1) n
  pub third : sum_l x ≡ lag_sum a b (at + 2) n
  pub fourth : sum_l y ≡ lag_sum a b (at + 3) n
  pub first_lanes : length v ≡ lanes
  pub second_lanes : length w ≡ lanes
  pub third_lanes : length x ≡ lanes
  pub fourth_lanes : length y ≡ lanes

pub four-none : (lanes : ℕ) (a b : List ℕ) (at : ℕ) (zeros : List ℕ) → sum_l zeros ≡ 0 → length zeros ≡ lanes → FourSums lanes a b at 0 zeros zeros zeros zeros
unfolding nat_sum
four-none lanes a b at zeros none len = record {
  first = none;
  second = none;
  third = none;
  fourth = none;
  first_lanes = len;
  second_lanes = len;
  third_lanes = len;
  fourth_lanes = len;
}

-- a place more
pub place-more : (a b : List ℕ) (lag i : ℕ) → lag_sum a b lag (i + 1) ≡ lag_sum a b lag i + get_or a i 0 * get_or b (lag + i) 0
unfolding nat_sum
place-more a b lag i = rw (add-one i) refl

-- four results
pub four-are : (f : ℕ → ℕ) (v w x y : ℕ) → v ≡ f 0 → w ≡ f 1 → x ≡ f 2 → y ≡ f 3 → (k : ℕ) → k < 4 → get_or (v ∷ w ∷ x ∷ y ∷ []) k 0 ≡ f k
four-are f v w x y a b c d zero lt = a
four-are f v w x y a b c d (suc zero) lt = b
four-are f v w x y a b c d (suc (suc zero)) lt = c
four-are f v w x y a b c d (suc (suc (suc zero))) lt = d
four-are f v w x y a b c d (suc (suc (suc (suc k)))) lt = absurd (omega arith)

-- those of all vectors
pub four-lags : (lanes : ℕ) (a b : List ℕ) (at i count : ℕ) (v w x y : List ℕ) → FourSums lanes a b at (32 * i) v w x y → i ≡ count
    → (p q r s : ℕ) → p ≡ sum_l v → q ≡ sum_l w → r ≡ sum_l x → s ≡ sum_l y
    → (k : ℕ) → k < 4 → get_or (p ∷ q ∷ r ∷ s ∷ []) k 0 ≡ lag_sum a b (at + k) (32 * count)
four-lags lanes a b at i count v w x y sums all p q r s first second third fourth =
    let upto : (lag : ℕ) → lag_sum a b lag (32 * i) ≡ lag_sum a b lag (32 * count) = λ lag. ap (λ n. lag_sum a b lag (32 * n)) all in
    four-are (λ k. lag_sum a b (at + k) (32 * count)) p q r s
    (first ∙ sums.first ∙ upto at ∙ ap (λ lag. lag_sum a b lag (32 * count)) (sym (add-zero at)))
    (second ∙ sums.second ∙ upto (at + 1))
    (third ∙ sums.third ∙ upto (at + 2))
    (fourth ∙ sums.fourth ∙ upto (at + 3))

-- a weight below 65 times a byte
product_within : (x y : ℕ) → x < 65 → y < 256 → x * y ≤ 16320
product_within x y p q =
    let a : x ≤ 64 = omega (arith, p) in
    let b : y ≤ 255 = omega (arith, q) in omega (arith, mul-le-mul a b)

-- a sum's bound
pub lag_sum-within : (a b : List ℕ) (lag n : ℕ) → ((i : ℕ) → get_or a i 0 < 65) → ((k : ℕ) → Fits w8 (get_or b k 0)) → lag_sum a b lag n ≤ 16320 * n
lag_sum-within a b lag n weights fits =
    nat_sum-within (lag_product a b lag) 16320 n (λ i _. product_within _ _ (weights i) (fits (lag + i)).fits)

pub sum-small : (a b : List ℕ) (lag n : ℕ) → ((i : ℕ) → get_or a i 0 < 65) → ((k : ℕ) → Fits w8 (get_or b k 0)) → n ≤ 2 ^ 15 → (sum : ℕ) → sum ≡ lag_sum a b lag n → sum < 2 ^ 31
sum-small a b lag n weights fits few sum is = omega (arith, lag_sum-within a b lag n weights fits, few, is)

-- ---- vectors: n lanes of four bytes each

-- the sums of a vector with those of a `dot4`
pub dots-plus : (n : ℕ) (sums xs ys : List ℕ) → length sums ≡ n → length xs ≡ 4 * n → length ys ≡ 4 * n
    → sum_l (zip2 (λ a b. a + b) sums (dots xs ys)) ≡ sum_l sums + sum_l (products xs ys)
dots-plus n sums xs ys l e e' =
    let d = sum_dots n xs ys e e' in
    omega (arith, sum-zip2 sums (dots xs ys) (l ∙ sym d.1), d.0)

pub dots-plus-len : (n : ℕ) (sums xs ys : List ℕ) → length sums ≡ n → length xs ≡ 4 * n → length ys ≡ 4 * n
    → length (zip2 (λ (a b : ℕ). a + b) sums (dots xs ys)) ≡ n
dots-plus-len n sums xs ys l e e' = length-zip2 (λ (a b : ℕ). a + b) sums (dots xs ys) (l ∙ sym (sum_dots n xs ys e e').1) ∙ l

pub dots-fit : (n : ℕ) (sums xs ys : List ℕ) → n ≤ 32 → length sums ≡ n → length xs ≡ 4 * n → length ys ≡ 4 * n
    → Each1 (Fits w8) xs → Each1 (λ y. y < 65) ys → sum_l sums < 2 ^ 31 → Each2 (λ a b. Fits w32 (a + b)) sums (dots xs ys)
dots-fit n sums xs ys few l e e' fits weights small =
    let d = sum_dots n xs ys e e' in
    let each = products_bound xs ys (below_from_Fits w8 xs fits) (all_below-each 65 ys weights) in
    let most = sum_bound 16320 (products xs ys) each in
    let len = length-zip2 (λ (x y : ℕ). x * y) xs ys (e ∙ sym e') in
    adds_fit w32 sums (dots xs ys) (omega (arith, d.0, most, len))
