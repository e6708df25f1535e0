-- The bits of a number with a bit more.
use Rattle.std.proofs.Common.{◌≡◌, ℕ, suc, Bool, true, false, if◌then◌else◌, ◌+◌, ◌-◌, ◌*◌, ◌%◌, ◌^◌, ◌<◌, ap, ◌∙◌, arith}
use Rattle.std.specs.Int.Bits.{bit_or, or_shifted_r}
use Rattle.std.specs.Int.{bit_at}
use Rattle.std.proofs.Math.Nat.{pow-suc}
use Rattle.std.proofs.lemmas.Nat.{shl_whole, mul-add-lt}
use Rattle.std.proofs.lemmas.Nat.Bits.{bit_at_cat_low, bit_at_cat_high}

more-value : (n b k : ℕ) → k < 64 → n < 2 ^ k → b < 2 → bit_or n (b * 2 ^ k % 2 ^ 64) ≡ b * 2 ^ k + n
more-value n b k h m p =
    let one : b < 2 ^ 1 = omega arith in
    ap (bit_or n) (shl_whole b 1 k 64 one (omega arith)) ∙ or_shifted_r b k n m

pub more-below : (n b k : ℕ) → k < 64 → n < 2 ^ k → b < 2 → bit_or n (b * 2 ^ k % 2 ^ 64) < 2 ^ (k + 1)
more-below n b k h m p =
    let value = more-value n b k h m p in
    let small : b * 2 ^ k + n < 2 ^ k * 2 = mul-add-lt b (2 ^ k) n 2 p m in
    let next : k + 1 ≡ suc k = omega arith in
    let twice : 2 ^ (k + 1) ≡ 2 ^ k * 2 = ap (λ x. 2 ^ x) next ∙ pow-suc 2 k in
    omega (arith, value, small, twice)

pub more-before : (n b k j : ℕ) → k < 64 → n < 2 ^ k → b < 2 → j < k → bit_at (bit_or n (b * 2 ^ k % 2 ^ 64)) j ≡ bit_at n j
more-before n b k j h m p q = ap (λ x. bit_at x j) (more-value n b k h m p) ∙ bit_at_cat_low b k n j q

pub more-here : (n b k : ℕ) → k < 64 → n < 2 ^ k → b < 2 → bit_at (bit_or n (b * 2 ^ k % 2 ^ 64)) k ≡ b
more-here n b k h m p =
    let place : k - k ≡ 0 = omega arith in
    let lowest : bit_at b 0 ≡ b = omega arith in
    ap (λ x. bit_at x k) (more-value n b k h m p) ∙ bit_at_cat_high b k n k m (omega arith) ∙ ap (bit_at b) place ∙ lowest

pub one_bit : (b : Bool) → (if b then 1 else 0) < 2
one_bit false = omega arith
one_bit true = omega arith
