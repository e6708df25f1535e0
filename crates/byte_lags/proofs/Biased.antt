-- From the sums of products of biased bytes to those of the numbers that they stand for.
use Rattle.std.proofs.Common.{◌≡◌, ℕ, zero, suc, ◌+◌, ◌*◌, ◌<◌, ◌≤◌, List, get_or, ℤ, pos, ◌+ℤ◌, ◌-ℤ◌, ◌*ℤ◌, refl, sym, ap, ap₂, ◌∙◌, arith, zero-add}
use Rattle.std.proofs.Math.Nat.{mul-add, mul-zero, mul-suc}
use Rattle.std.proofs.Math.IntN.{*ℤ_comm, pos-*ℤ-pos}
use Rattle.std.proofs.lemmas.Int.{ints}
use Rattle.byte_sums.specs.Sums.{nat_sum, lag_product, lag_sum}
use Rattle.byte_sums.proofs.Chunks.{nat_sum-same}
use Rattle.byte_lags.specs.Streams.{int_sum, window, IsBiased, product_sum}
use Rattle.byte_lags.proofs.IntProducts.{int_add-mul, int_mul-add}

law_step : (a b c d : ℕ) (s t : ℤ) → pos a ≡ s +ℤ pos c → pos b ≡ t +ℤ pos d → pos (a + b) ≡ (s +ℤ t) +ℤ pos (c + d)
law_step a b c d s t e f = omega (arith, ints)

sums_law : (f g : ℕ → ℕ) (t : ℕ → ℤ) (n : ℕ) → ((i : ℕ) → i < n → pos (f i) ≡ t i +ℤ pos (g i)) → pos (nat_sum f n) ≡ int_sum t n +ℤ pos (nat_sum g n)
unfolding nat_sum int_sum
sums_law f g t zero h = refl
sums_law f g t (suc n) h = law_step (nat_sum f n) (f n) (nat_sum g n) (g n) (int_sum t n) (t n) (sums_law f g t n (λ i k. h i (omega arith))) (h n (omega arith))

sum-constant : (f : ℕ → ℕ) (c n : ℕ) → nat_sum (λ i. f i + c) n ≡ nat_sum f n + c * n
unfolding nat_sum
sum-constant f c zero = rw (mul-zero c) refl
sum-constant f c (suc n) = rw (mul-suc c n) (omega (arith, sum-constant f c n))

sum-two : (f g : ℕ → ℕ) (a b n : ℕ) → nat_sum (λ i. a * f i + b * g i) n ≡ a * nat_sum f n + b * nat_sum g n
unfolding nat_sum
sum-two f g a b zero = rw (mul-zero a, mul-zero b) refl
sum-two f g a b (suc n) = rw (mul-add a (nat_sum f n) (f n), mul-add b (nat_sum g n) (g n)) (omega (arith, sum-two f g a b n))

linear : (pq ab bp aq : ℕ) (xy ay xb bx k l : ℤ) → pos pq ≡ (xy +ℤ ay) +ℤ (xb +ℤ k) → pos bp ≡ bx +ℤ l → pos aq ≡ ay +ℤ k → pos ab ≡ k → xb ≡ bx → k ≡ l
    → pos (pq + ab) ≡ xy +ℤ pos (bp + aq)
linear pq ab bp aq xy ay xb bx k l p q r s t u = omega (arith, ints)

times : (m n : ℕ) → pos (m * n) ≡ pos m *ℤ pos n
times m n = sym (pos-*ℤ-pos m n)

point : (p q a b : ℕ) (x y : ℤ) → pos p ≡ x +ℤ pos a → pos q ≡ y +ℤ pos b → pos (p * q + a * b) ≡ x *ℤ y +ℤ pos (b * p + a * q)
point p q a b x y e f =
    let whole : pos (p * q) ≡ (x *ℤ y +ℤ pos a *ℤ y) +ℤ (x *ℤ pos b +ℤ pos a *ℤ pos b) =
    times p q ∙ ap₂ (λ (s t : ℤ). s *ℤ t) e f ∙ int_mul-add (x +ℤ pos a) y (pos b)
    ∙ ap₂ (λ (s t : ℤ). s +ℤ t) (int_add-mul x (pos a) y) (int_add-mul x (pos a) (pos b)) in
    let first : pos (b * p) ≡ pos b *ℤ x +ℤ pos b *ℤ pos a = times b p ∙ ap (λ (s : ℤ). pos b *ℤ s) e ∙ int_mul-add (pos b) x (pos a) in
    let second : pos (a * q) ≡ pos a *ℤ y +ℤ pos a *ℤ pos b = times a q ∙ ap (λ (s : ℤ). pos a *ℤ s) f ∙ int_mul-add (pos a) y (pos b) in
    linear (p * q) (a * b) (b * p) (a * q) (x *ℤ y) (pos a *ℤ y) (x *ℤ pos b) (pos b *ℤ x) (pos a *ℤ pos b) (pos b *ℤ pos a)
    whole first second (times a b) (*ℤ_comm x (pos b)) (*ℤ_comm (pos a) (pos b))

window-first : (bytes : List ℕ) (n : ℕ) → window bytes 0 n ≡ nat_sum (λ i. get_or bytes i 0) n
window-first bytes n = nat_sum-same _ _ n (λ i _. ap (λ k. get_or bytes k 0) (zero-add i))

product_law : (a b : ℕ) (x y : ℕ → ℤ) (n m lag : ℕ) (p q : List ℕ) → IsBiased a x n p → IsBiased b y m q → lag + n ≤ m
    → pos (lag_sum p q lag n + a * b * n) ≡ product_sum x y lag n +ℤ pos (b * window p 0 n + a * window q lag n)
product_law a b x y n m lag p q first second room =
    let byte : List ℕ → ℕ → ℕ = λ xs i. get_or xs i 0 in
    let law =
    sums_law (λ i. lag_product p q lag i + a * b) (λ i. b * byte p i + a * byte q (lag + i)) (λ i. x i *ℤ y (lag + i)) n (λ i lt.
    point (byte p i) (byte q (lag + i)) a b (x i) (y (lag + i)) (first i lt) (second (lag + i) (omega arith))) in
    let left : lag_sum p q lag n + a * b * n ≡ nat_sum (λ i. lag_product p q lag i + a * b) n = sym (sum-constant (lag_product p q lag) (a * b) n) in
    let right : nat_sum (λ i. b * byte p i + a * byte q (lag + i)) n ≡ b * window p 0 n + a * window q lag n =
    sum-two (byte p) (λ i. byte q (lag + i)) b a n ∙ ap (λ k. b * k + a * window q lag n) (sym (window-first p n)) in
    ap pos left ∙ law ∙ ap (λ k. product_sum x y lag n +ℤ pos k) right

taken : (s : ℤ) (more less : ℕ) → pos more ≡ s +ℤ pos less → pos more -ℤ pos less ≡ s
taken s more less e = omega (arith, ints)

-- what the code computes is the sum
pub value_is : (a b : ℕ) (x y : ℕ → ℤ) (n m lag : ℕ) (p q : List ℕ) → IsBiased a x n p → IsBiased b y m q → lag + n ≤ m
    → (sum biases first second : ℕ) (value : ℤ) → sum ≡ lag_sum p q lag n → biases ≡ a * b * n → first ≡ b * window p 0 n → second ≡ a * window q lag n
    → value ≡ pos (sum + biases) -ℤ pos (first + second) → value ≡ product_sum x y lag n
value_is a b x y n m lag p q is_first is_second room sum biases first second value e f g h v =
    v ∙ taken (product_sum x y lag n) (sum + biases) (first + second)
    (ap pos (ap₂ (λ (s t : ℕ). s + t) e f) ∙ product_law a b x y n m lag p q is_first is_second room
    ∙ ap (λ k. product_sum x y lag n +ℤ pos k) (sym (ap₂ (λ (s t : ℕ). s + t) g h)))
