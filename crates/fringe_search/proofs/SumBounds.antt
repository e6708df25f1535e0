-- Sums of cells against the sums of their sizes.
use Rattle.std.proofs.Common.{◌≡◌, ℕ, zero, suc, ◌+◌, ◌*◌, ◌<◌, ◌≤◌, ℤ, ◌+ℤ◌, unsigned_abs, refl, sym, ap₂, ◌∙◌, arith, add-one, inl, inr}
use Rattle.std.proofs.lemmas.Bool.{cases_lt}
use Rattle.std.proofs.lemmas.Int.{ints}
use Rattle.fringe_search.specs.Sums.{int_sum, nat_sum}

pub int_sum-more : (f : ℕ → ℤ) (n : ℕ) → int_sum f (n + 1) ≡ int_sum f n +ℤ f n
unfolding int_sum
int_sum-more f n = rw add-one refl

pub nat_sum-more : (f : ℕ → ℕ) (n : ℕ) → nat_sum f (n + 1) ≡ nat_sum f n + f n
unfolding nat_sum
nat_sum-more f n = rw add-one refl

-- each term is within a multiple of a number, so each sum is
pub int_sum-within : (f : ℕ → ℤ) (g : ℕ → ℕ) (k n : ℕ) → ((i : ℕ) → i < n → unsigned_abs (f i) ≤ k * g i)
    → unsigned_abs (int_sum f n) ≤ k * nat_sum g n
unfolding int_sum nat_sum
int_sum-within f g k zero h = omega arith
int_sum-within f g k (suc n) h =
    let before = int_sum-within f g k n (λ i b. h i (omega arith)) in
    let here = h n (omega arith) in
    omega (arith, ints)

-- a longer sum is not less
pub nat_sum-le : (g : ℕ → ℕ) (m n : ℕ) → m ≤ n → nat_sum g m ≤ nat_sum g n
unfolding nat_sum
nat_sum-le g m zero h = let e : m ≡ 0 = omega arith in rw e (omega arith)
nat_sum-le g m (suc n) h =
    elim (cases_lt n m) [
      | inl more ↦ (let e : m ≡ suc n = omega arith in rw e (omega arith))
      | inr less ↦ (let low = nat_sum-le g m n less in omega arith)
    ]

-- a term and those before it are within the sum
pub term_within : (g : ℕ → ℕ) (m n : ℕ) → m < n → nat_sum g m + g m ≤ nat_sum g n
term_within g m n h = omega (arith, nat_sum-more g m, nat_sum-le g (m + 1) n (omega arith))

-- a loop's step
pub re_more : (f : ℕ → ℤ) (m : ℕ) (sum part next : ℤ) → sum ≡ int_sum f m → next ≡ sum +ℤ part → part ≡ f m → next ≡ int_sum f (m + 1)
re_more f m sum part next s n p = n ∙ ap₂ (λ x y. x +ℤ y) s p ∙ sym (int_sum-more f m)

pub within_more : (g : ℕ → ℕ) (k m : ℕ) (sum part next : ℤ) → unsigned_abs sum ≤ k * nat_sum g m → next ≡ sum +ℤ part
    → unsigned_abs part ≤ k * g m → unsigned_abs next ≤ k * nat_sum g (m + 1)
within_more g k m sum part next s n p =
    let more : k * nat_sum g (m + 1) ≡ k * nat_sum g m + k * g m = rw (nat_sum-more g m) (omega arith) in
    omega (arith, ints)

pub size_more : (g : ℕ → ℕ) (m sum part next : ℕ) → sum ≡ nat_sum g m → next ≡ sum + part → part ≡ g m → next ≡ nat_sum g (m + 1)
size_more g m sum part next s n p = omega (arith, nat_sum-more g m)
