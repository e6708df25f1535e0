-- The sums of so many bytes from a place on.
use Rattle.std.proofs.Common.{◌≡◌, ℕ, zero, suc, ◌+◌, ◌*◌, ◌<◌, ◌≤◌, List, get_or, refl, ap, ◌∙◌, arith, w8, Fits, add-zero, zero-add, add-one}
use Rattle.byte_sums.specs.Sums.{nat_sum}
use Rattle.byte_lags.specs.Streams.{window}
use Rattle.byte_sums.proofs.Chunks.{nat_sum-same, nat_sum-split, nat_sum-within}

-- a byte more
pub window-more : (bytes : List ℕ) (at n : ℕ) → window bytes at (n + 1) ≡ window bytes at n + get_or bytes (at + n) 0
unfolding nat_sum
window-more bytes at n = rw (add-one n) refl

-- a window more
pub window-join : (bytes : List ℕ) (at n : ℕ) → window bytes 0 (at + n) ≡ window bytes 0 at + window bytes at n
window-join bytes at n =
    nat_sum-split (λ i. get_or bytes (0 + i) 0) at n
    ∙ ap (λ s. window bytes 0 at + s) (nat_sum-same _ _ n (λ i _. ap (λ k. get_or bytes k 0) (zero-add (at + i))))

pub window-none : (bytes : List ℕ) (at : ℕ) → 0 ≡ window bytes at 0
unfolding nat_sum
window-none bytes at = refl

pub window-next : (bytes : List ℕ) (at n : ℕ) → window bytes (at + 1) n + get_or bytes at 0 ≡ window bytes at n + get_or bytes (at + n) 0
unfolding nat_sum
window-next bytes at zero = rw (add-zero at) refl
window-next bytes at (suc n) =
    let place : at + 1 + n ≡ at + suc n = omega arith in
    let last = ap (λ k. get_or bytes k 0) place in
    omega (arith, window-next bytes at n, last)

pub window-within : (bytes : List ℕ) (at n : ℕ) → ((k : ℕ) → Fits w8 (get_or bytes k 0)) → window bytes at n ≤ 255 * n
window-within bytes at n fits = nat_sum-within (λ i. get_or bytes (at + i) 0) 255 n (λ i _. let h : get_or bytes (at + i) 0 < 256 = (fits (at + i)).fits in omega (arith, h))

pub window-small : (greatest : ℕ) (bytes : List ℕ) (at n : ℕ) → ((k : ℕ) → get_or bytes k 0 ≤ greatest) → greatest ≤ 60 → window bytes at n ≤ 60 * n
window-small greatest bytes at n each le = nat_sum-within (λ i. get_or bytes (at + i) 0) 60 n (λ i _. omega (arith, each (at + i), le))
