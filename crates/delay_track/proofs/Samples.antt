-- The samples of so many seconds, and those from a polynomial's second to a sample.
use Rattle.std.proofs.Common.{◌≡◌, ℕ, suc, ◌+◌, ◌*◌, ◌/◌, ◌^◌, ◌≤◌, ◌<◌, ℤ, pos, negsuc, ◌+ℤ◌, ◌-ℤ◌, ◌*ℤ◌, ◌≤ℤ◌, unsigned_abs, w64, of_z, to_z, FitsSigned, ap, arith}
use borrow.Author.Differences.{up, down}
use Rattle.std.proofs.Math.Nat.{div-mul-le_self}
use Rattle.std.proofs.lemmas.Int.{ints, to_z-of_z}
use Rattle.std.proofs.lemmas.Nat.{mul-le}
use Rattle.num_time.specs.Times.{IsSecond}
use Rattle.delay_poly.specs.declared.entry.PolyEntry.{PolyEntry}
use Rattle.corr_model.specs.Delay.{DelayModel, IsDelayModel, samples_since}
use Rattle.delay_track.proofs.Polynomials.{IsBegun}

-- the seconds from one to another, in words of 64 bits
pub record IsPassed (start second : ℤ) : Type 0 where
  pub fits : FitsSigned w64 (to_z w64 (of_z w64 second) -ℤ to_z w64 (of_z w64 start))
  pub value : to_z w64 (of_z w64 (to_z w64 (of_z w64 second) -ℤ to_z w64 (of_z w64 start))) ≡ second -ℤ start

pub IsPassed-seconds : (start second : ℤ) → IsSecond start → IsSecond second → IsPassed start second
IsPassed-seconds start second before after =
    let from : FitsSigned w64 start = omega (arith, ints, before) in
    let at : FitsSigned w64 second = omega (arith, ints, after) in
    let fits : FitsSigned w64 (second -ℤ start) = omega (arith, ints, before, after) in
    let first = to_z-of_z w64 start from in
    let last = to_z-of_z w64 second at in
    record { fits = rw (first, last) fits; value = rw (first, last) (to_z-of_z w64 (second -ℤ start) fits) }

-- the samples of some seconds and of others
pub product_sum : (a b : ℤ) (rate : ℕ) → (a +ℤ b) *ℤ pos rate ≡ a *ℤ pos rate +ℤ b *ℤ pos rate
product_sum a b rate =
    let sum : up (a +ℤ b) + (down a + down b) ≡ down (a +ℤ b) + (up a + up b) = omega (arith, ints) in
    omega (arith, ints, ap (λ v. v * rate) sum)

-- seconds that have passed at sample n are at most n samples
product_le : (seconds : ℤ) (n rate : ℕ) → seconds ≤ℤ pos (n / rate) → (seconds *ℤ pos rate) ≤ℤ pos n
product_le (pos a) n rate h =
    let samples : a * rate ≤ n / rate * rate = mul-le a rate (n / rate) rate (omega (arith, ints)) (omega arith) in
    omega (arith, ints, div-mul-le_self n rate)
product_le (negsuc a) n rate h = omega (arith, ints)

pub unsigned_abs-product : (seconds : ℤ) (n rate : ℕ) → pos 0 ≤ℤ seconds → seconds ≤ℤ pos (n / rate) → unsigned_abs seconds * rate ≤ n
unsigned_abs-product (pos a) n rate some h =
    omega (arith, div-mul-le_self n rate, mul-le a rate (n / rate) rate (omega (arith, ints)) (omega arith))
unsigned_abs-product (negsuc a) n rate some h = absurd (omega (arith, ints))

-- seconds at most so far back are at most so many samples
pub product_low : (seconds : ℤ) (most rate : ℕ) → (pos 0 -ℤ pos most) ≤ℤ seconds → (pos 0 -ℤ pos (most * rate)) ≤ℤ (seconds *ℤ pos rate)
product_low (pos a) most rate h = omega (arith, ints)
product_low (negsuc a) most rate h =
    let samples : suc a * rate ≤ most * rate = mul-le (suc a) rate most rate (omega (arith, ints)) (omega arith) in
    omega (arith, ints)

-- seconds at most so far on are at most so many samples
pub product_high : (seconds : ℤ) (most rate : ℕ) → seconds ≤ℤ pos most → (seconds *ℤ pos rate) ≤ℤ pos (most * rate)
product_high (pos a) most rate h =
    let samples : a * rate ≤ most * rate = mul-le a rate most rate (omega (arith, ints)) (omega arith) in
    omega (arith, ints)
product_high (negsuc a) most rate h = omega (arith, ints)

-- the samples from a polynomial's second to a sample at which it has begun are a natural number
pub samples_since-pos : (m : DelayModel) (n : ℕ) (e : PolyEntry) → IsBegun m n e
    → pos n -ℤ (e.second -ℤ m.start) *ℤ pos m.rate ≡ pos (samples_since m e n)
samples_since-pos m n e h =
    let begun : (e.second -ℤ m.start) ≤ℤ pos (n / m.rate) = omega (arith, ints, h.begun) in
    let product = product_le (e.second -ℤ m.start) n m.rate begun in
    omega (arith, ints, product)

-- they are fewer than 2^64 - 1
pub samples_since-small : (m : DelayModel) (samples n : ℕ) (e : PolyEntry) → IsDelayModel m samples → IsBegun m n e → n < samples → samples_since m e n + 1 < 2 ^ 64
samples_since-small m samples n e model h inside =
    let low : (pos 0 -ℤ pos 4102444799) ≤ℤ (e.second -ℤ m.start) = omega (arith, ints, h.second, model.start) in
    let product = product_low (e.second -ℤ m.start) 4102444799 m.rate low in
    omega (arith, ints, product, samples_since-pos m n e h, model.rate, model.most)
