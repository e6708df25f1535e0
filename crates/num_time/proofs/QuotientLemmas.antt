-- The floor of a quotient.
use Rattle.std.proofs.Common.{◌≡◌, ℕ, ◌*◌, ◌/◌, ◌<◌, zero, suc, ℤ, pos, negsuc, neg_ℤ, ◌+ℤ◌, ◌*ℤ◌, ◌<ℤ◌, ◌≤ℤ◌, arith}
use Rattle.std.proofs.lemmas.Int.{ints}
use Rattle.std.proofs.lemmas.Nat.{div-add-mod', mod_below}
use Rattle.num_time.specs.Numbers.{floor_of}

-- the floor's multiple is not above the number
pub floor_of-mul-le : (a b : ℤ) → pos 0 <ℤ b → (floor_of a b *ℤ b) ≤ℤ a
floor_of-mul-le (pos a) (pos n) h =
    let n_pos : 0 < n = omega (arith, ints, h) in
    omega (arith, ints, div-add-mod' a n)
floor_of-mul-le (negsuc a) (pos n) h =
    let n_pos : 0 < n = omega (arith, ints, h) in
    omega (arith, ints, div-add-mod' a n, mod_below a n n_pos)
floor_of-mul-le (pos a) (negsuc n) h = absurd (omega (arith, ints, h))
floor_of-mul-le (negsuc a) (negsuc n) h = absurd (omega (arith, ints, h))

-- one more than a negative number, times a positive one
suc-mul : (q n : ℕ) → ((negsuc q +ℤ pos 1) *ℤ pos n) ≡ neg_ℤ (pos (q * n))
suc-mul zero n = omega (arith, ints)
suc-mul (suc q) n =
    let less : (negsuc (suc q) +ℤ pos 1) ≡ negsuc q = omega (arith, ints) in
    rw less (omega (arith, ints))

-- and the next one's is
pub lt-floor_of-mul : (a b : ℤ) → pos 0 <ℤ b → a <ℤ ((floor_of a b +ℤ pos 1) *ℤ b)
lt-floor_of-mul (pos a) (pos n) h =
    let n_pos : 0 < n = omega (arith, ints, h) in
    omega (arith, ints, div-add-mod' a n, mod_below a n n_pos)
lt-floor_of-mul (negsuc a) (pos n) h =
    let n_pos : 0 < n = omega (arith, ints, h) in
    omega (arith, ints, div-add-mod' a n, suc-mul (a / n) n)
lt-floor_of-mul (pos a) (negsuc n) h = absurd (omega (arith, ints, h))
lt-floor_of-mul (negsuc a) (negsuc n) h = absurd (omega (arith, ints, h))
