-- The size of a part of a number, and of the delay on a line.
use Rattle.std.proofs.Common.{◌≡◌, ℕ, zero, suc, ◌+◌, ◌-◌, ◌*◌, ◌^◌, ◌≤◌, ◌<◌, ◌⊎◌, ⊎_elim, inl, inr, ℤ, pos, negsuc, ◌+ℤ◌, ◌-ℤ◌, ◌*ℤ◌, ◌≤ℤ◌, unsigned_abs, ap, ◌∙◌, arith}
use Rattle.std.specs.Int.{int_div_euclid}
use Rattle.std.proofs.Math.IntN.{*ℤ-zero}
use Rattle.std.proofs.Math.Nat.{mul-pos}
use Rattle.std.proofs.lemmas.Int.{ints}
use Rattle.std.proofs.lemmas.Nat.{mul-le, div_below}
use Rattle.corr_model.specs.Delay.{between}

-- a part of a number, rounded down, lies between zero and the number
pub part_within : (z : ℤ) (past knot : ℕ) → past < knot
    → ((pos 0 ≤ℤ int_div_euclid (z *ℤ pos past) (pos knot)) × (int_div_euclid (z *ℤ pos past) (pos knot) ≤ℤ z))
    ⊎ ((z ≤ℤ int_div_euclid (z *ℤ pos past) (pos knot)) × (int_div_euclid (z *ℤ pos past) (pos knot) ≤ℤ pos 0))
part_within (pos a) past knot h =
    let small : a * past ≤ a * knot = mul-le a past a knot (omega arith) (omega arith) in
    let some : 0 < knot = omega arith in
    let below = div_below (a * past) knot (a + 1) some (omega arith) in
    inl (omega (arith, ints), omega (arith, ints))
part_within (negsuc a) zero knot h = rw (*ℤ-zero (negsuc a)) (inr (omega (arith, ints), omega (arith, ints)))
part_within (negsuc a) (suc past) knot h =
    let small : suc a * suc past ≤ suc a * knot = mul-le (suc a) (suc past) (suc a) knot (omega arith) (omega arith) in
    let some : 0 < suc a * suc past = mul-pos (omega arith) (omega arith) in
    let product : negsuc a *ℤ pos (suc past) ≡ negsuc (suc a * suc past - 1) = omega (arith, ints) in
    let below = div_below (suc a * suc past - 1) knot (suc a) (omega arith) (omega arith) in
    rw product (inr (omega (arith, ints), omega (arith, ints)))

-- the delay on a line lies between the delays at its ends
pub between_within : (first next : ℤ) (past knot : ℕ) → past < knot
    → ((first ≤ℤ between first next past knot) × (between first next past knot ≤ℤ next))
    ⊎ ((next ≤ℤ between first next past knot) × (between first next past knot ≤ℤ first))
between_within first next past knot h =
    ⊎_elim
    (λ up. inl (omega (arith, ints, up.0), omega (arith, ints, up.1)))
    (λ down. inr (omega (arith, ints, down.1), omega (arith, ints, down.0)))
    (part_within (next -ℤ first) past knot h)

pub unsigned_abs-between : (first next : ℤ) (past knot most : ℕ) → past < knot → unsigned_abs first < most → unsigned_abs next < most
    → unsigned_abs (between first next past knot) < most
unsigned_abs-between first next past knot most h f n =
    ⊎_elim
    (λ up. omega (arith, ints, up.0, up.1))
    (λ down. omega (arith, ints, down.0, down.1))
    (between_within first next past knot h)

-- the part by which the line has risen is no larger than the rise
pub unsigned_abs-part : (part first next : ℤ) (past knot : ℕ) → past < knot → part ≡ int_div_euclid ((next -ℤ first) *ℤ pos past) (pos knot)
    → unsigned_abs part ≤ unsigned_abs first + unsigned_abs next
unsigned_abs-part part first next past knot h is =
    ⊎_elim
    (λ up. omega (arith, ints, is, up.0, up.1))
    (λ down. omega (arith, ints, is, down.0, down.1))
    (part_within (next -ℤ first) past knot h)

-- the part that is added to the first delay gives the delay on the line
pub part_on : (first next rise part : ℤ) (past knot : ℕ) → past < knot → unsigned_abs first < 2 ^ 59 → unsigned_abs next < 2 ^ 59
    → part ≡ int_div_euclid (rise *ℤ pos past) (pos knot) → rise ≡ next -ℤ first
    → (unsigned_abs part ≤ unsigned_abs first + unsigned_abs next) × (first +ℤ part ≡ between first next past knot) × (unsigned_abs (first +ℤ part) < 2 ^ 59)
part_on first next rise part past knot h a b is e =
    let of_line : part ≡ int_div_euclid ((next -ℤ first) *ℤ pos past) (pos knot) = is ∙ ap (λ (z : ℤ). int_div_euclid (z *ℤ pos past) (pos knot)) e in
    let sum : first +ℤ part ≡ between first next past knot = ap (λ (z : ℤ). first +ℤ z) of_line in
    (unsigned_abs-part part first next past knot h of_line, sum, rw sum (unsigned_abs-between first next past knot (2 ^ 59) h a b))
