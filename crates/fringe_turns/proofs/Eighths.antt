-- The eighths of a turn, rounded to the nearest, and the sectors.
use Rattle.std.proofs.Common.{◌≡◌, ℕ, zero, suc, ◌+◌, ◌-◌, ◌*◌, ◌/◌, ◌%◌, ◌^◌, ◌<◌, Bool, ℤ, pos, negsuc, ◌+ℤ◌, unsigned_abs, refl, sym, ap, ◌∙◌, arith}
use Rattle.std.specs.Int.{int_div_euclid, int_rem_euclid}
use Rattle.std.proofs.lemmas.Int.{ints}
use Rattle.fringe_rotator.specs.Sector.{turn_of}
use Rattle.fringe_turns.specs.Direction.{direction_of}
use Rattle.fringe_turns.proofs.QuotientLemmas.{floor_floor, floor_more}

below_zero : (a : ℕ) → (15 - suc a % 16 + 1) / 2 % 8 ≡ 7 - a / 2 % 8
below_zero a = omega arith

-- two sectors side by side have one direction
half_turns : (s : ℤ) → (unsigned_abs (int_rem_euclid s (pos 16)) + 1) / 2 % 8 ≡ unsigned_abs (int_rem_euclid (int_div_euclid (s +ℤ pos 1) (pos 2)) (pos 8))
half_turns (pos a) = omega (arith, ints)
half_turns (negsuc zero) = refl
half_turns (negsuc (suc a)) =
    let less : negsuc (suc a) +ℤ pos 1 ≡ negsuc a = omega (arith, ints) in
    below_zero a ∙ sym (ap (λ z. unsigned_abs (int_rem_euclid (int_div_euclid z (pos 2)) (pos 8))) less)

-- the eighths from the sixteenths
half_sixteenths : (t : ℤ) (rate : ℕ) → 0 < rate
    → int_div_euclid (t +ℤ pos (rate * 2 ^ 32)) (pos (rate * 2 ^ 33)) ≡ int_div_euclid (int_div_euclid t (pos (rate * 2 ^ 32)) +ℤ pos 1) (pos 2)
half_sixteenths t rate h =
    let twice : rate * 2 ^ 33 ≡ rate * 2 ^ 32 * 2 = omega arith in
    ap (λ d. int_div_euclid (t +ℤ pos (rate * 2 ^ 32)) (pos d)) twice
    ∙ sym (floor_floor (t +ℤ pos (rate * 2 ^ 32)) (rate * 2 ^ 32) 2)
    ∙ ap (λ z. int_div_euclid z (pos 2)) (floor_more t (rate * 2 ^ 32) (omega arith))

-- the direction is the place of the eighths within a turn
pub direction-eighths : (hertz : ℕ) (upper : Bool) (rate : ℕ) (x : ℤ) → 0 < rate
    → direction_of (record { hertz = hertz; upper = upper }) rate x
    ≡ unsigned_abs (int_rem_euclid (int_div_euclid (turn_of hertz upper x +ℤ pos (rate * 2 ^ 32)) (pos (rate * 2 ^ 33))) (pos 8))
direction-eighths hertz upper rate x h =
    half_turns (int_div_euclid (turn_of hertz upper x) (pos (rate * 2 ^ 32)))
    ∙ sym (ap (λ z. unsigned_abs (int_rem_euclid z (pos 8))) (half_sixteenths (turn_of hertz upper x) rate h))
