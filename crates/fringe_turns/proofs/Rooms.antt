-- How far a delay may rise or fall with the same direction.
use Rattle.std.proofs.Common.{◌≡◌, ℕ, ◌+◌, ◌-◌, ◌*◌, ◌/◌, ◌^◌, ◌≤◌, ◌<◌, Bool, true, false, ℤ, pos, ◌+ℤ◌, ◌-ℤ◌, unsigned_abs, sym, ap, ◌∙◌, subst, refl, arith}
use mathlib.Core.Bool.{beq}
use Rattle.std.specs.Int.{int_div_euclid, int_rem_euclid}
use Rattle.std.proofs.lemmas.Int.{ints}
use Rattle.fringe_rotator.specs.Sector.{turn_of}
use Rattle.corr_model.specs.Rotated.{Band}
use Rattle.delay_line.specs.Interval.{IsIn, IsIntervalOf}
use Rattle.fringe_turns.proofs.Products.{upper-later, upper-earlier, lower-later, lower-earlier}
use Rattle.delay_line.proofs.Intervals.{rising_interval, falling_interval}
use Rattle.fringe_turns.specs.Direction.{direction_of}
use Rattle.fringe_turns.specs.Eighths.{IsRoom}
use Rattle.fringe_turns.proofs.Eighths.{direction-eighths}

plus_more : (t : ℤ) (n s : ℕ) → (t +ℤ pos n) +ℤ pos s ≡ (t +ℤ pos s) +ℤ pos n
plus_more t n s = omega (arith, ints)

plus_less : (t : ℤ) (n s : ℕ) → (t -ℤ pos n) +ℤ pos s ≡ (t +ℤ pos s) -ℤ pos n
plus_less t n s = omega (arith, ints)

upper_eighths : (hertz s d r : ℕ) (x : ℤ) → r < d → 0 < 16 * hertz → int_rem_euclid (turn_of hertz true x +ℤ pos s) (pos d) ≡ pos r
    → IsIntervalOf (λ y. int_div_euclid (turn_of hertz true y +ℤ pos s) (pos d)) x
    (x -ℤ pos (r / (16 * hertz))) (x +ℤ pos ((d - 1 - r) / (16 * hertz)) +ℤ pos 1)
upper_eighths hertz s d r x small some rest =
    rising_interval (λ y. turn_of hertz true y +ℤ pos s) x (16 * hertz) d r small some
    (λ j. ap (λ t. t +ℤ pos s) (upper-later hertz j x) ∙ plus_more (turn_of hertz true x) (16 * hertz * j) s)
    (λ j. ap (λ t. t +ℤ pos s) (upper-earlier hertz j x) ∙ plus_less (turn_of hertz true x) (16 * hertz * j) s) rest

lower_eighths : (hertz s d r : ℕ) (x : ℤ) → r < d → 0 < 16 * hertz → int_rem_euclid (turn_of hertz false x +ℤ pos s) (pos d) ≡ pos r
    → IsIntervalOf (λ y. int_div_euclid (turn_of hertz false y +ℤ pos s) (pos d)) x
    (x -ℤ pos ((d - 1 - r) / (16 * hertz))) (x +ℤ pos (r / (16 * hertz)) +ℤ pos 1)
lower_eighths hertz s d r x small some rest =
    falling_interval (λ y. turn_of hertz false y +ℤ pos s) x (16 * hertz) d r small some
    (λ j. ap (λ t. t +ℤ pos s) (lower-later hertz j x) ∙ plus_less (turn_of hertz false x) (16 * hertz * j) s)
    (λ j. ap (λ t. t +ℤ pos s) (lower-earlier hertz j x) ∙ plus_more (turn_of hertz false x) (16 * hertz * j) s) rest

-- the same eighths are the same direction
same_direction : (hertz : ℕ) (upper : Bool) (rate : ℕ) (x y : ℤ) → 0 < rate
    → int_div_euclid (turn_of hertz upper y +ℤ pos (rate * 2 ^ 32)) (pos (rate * 2 ^ 33))
    ≡ int_div_euclid (turn_of hertz upper x +ℤ pos (rate * 2 ^ 32)) (pos (rate * 2 ^ 33))
    → direction_of (record { hertz = hertz; upper = upper }) rate y ≡ direction_of (record { hertz = hertz; upper = upper }) rate x
same_direction hertz upper rate x y h e =
    direction-eighths hertz upper rate y h ∙ ap (λ z. unsigned_abs (int_rem_euclid z (pos 8))) e ∙ sym (direction-eighths hertz upper rate x h)

above_in : (x : ℤ) (below above j : ℕ) → j ≤ above → IsIn (x -ℤ pos below) (x +ℤ pos above +ℤ pos 1) (x +ℤ pos j)
above_in x below above j h = record { not_before = omega (arith, ints); before_end = omega (arith, ints) }

below_in : (x : ℤ) (below above j : ℕ) → j ≤ below → IsIn (x -ℤ pos below) (x +ℤ pos above +ℤ pos 1) (x -ℤ pos j)
below_in x below above j h = record { not_before = omega (arith, ints); before_end = omega (arith, ints) }

-- Where delay and turn go the same way, there is room for what is left before the last turn of a direction.
pub room_left : (hertz rate : ℕ) (upper rises : Bool) (x : ℤ) (past left : ℕ) → 0 < hertz → 0 < rate
    → int_rem_euclid (turn_of hertz upper x +ℤ pos (rate * 2 ^ 32)) (pos (rate * 2 ^ 33)) ≡ pos past → past + left + 1 ≡ rate * 2 ^ 33
    → beq rises upper ≡ true
    → IsRoom (record { hertz = hertz; upper = upper }) rate x rises (left / (16 * hertz))
room_left hertz rate true true x past left some h rest sum way =
    let is : rate * 2 ^ 33 - 1 - past ≡ left = omega arith in
    let interval = upper_eighths hertz (rate * 2 ^ 32) (rate * 2 ^ 33) past x (omega arith) (omega arith) rest in
    λ j le. same_direction hertz true rate x (x +ℤ pos j) h
    (interval.same (x +ℤ pos j) (above_in x (past / (16 * hertz)) ((rate * 2 ^ 33 - 1 - past) / (16 * hertz)) j (rw is le)))
room_left hertz rate false false x past left some h rest sum way =
    let is : rate * 2 ^ 33 - 1 - past ≡ left = omega arith in
    let interval = lower_eighths hertz (rate * 2 ^ 32) (rate * 2 ^ 33) past x (omega arith) (omega arith) rest in
    λ j le. same_direction hertz false rate x (x -ℤ pos j) h
    (interval.same (x -ℤ pos j) (below_in x ((rate * 2 ^ 33 - 1 - past) / (16 * hertz)) (past / (16 * hertz)) j (rw is le)))
room_left hertz rate true false x past left some h rest sum way = absurd (cc)
room_left hertz rate false true x past left some h rest sum way = absurd (cc)

-- Where they go opposite ways, there is room for what it is past the first one.
pub room_past : (hertz rate : ℕ) (upper rises : Bool) (x : ℤ) (past left : ℕ) → 0 < hertz → 0 < rate
    → int_rem_euclid (turn_of hertz upper x +ℤ pos (rate * 2 ^ 32)) (pos (rate * 2 ^ 33)) ≡ pos past → past + left + 1 ≡ rate * 2 ^ 33
    → (beq rises upper ≡ true → ⊥)
    → IsRoom (record { hertz = hertz; upper = upper }) rate x rises (past / (16 * hertz))
room_past hertz rate true false x past left some h rest sum way =
    let interval = upper_eighths hertz (rate * 2 ^ 32) (rate * 2 ^ 33) past x (omega arith) (omega arith) rest in
    λ j le. same_direction hertz true rate x (x -ℤ pos j) h
    (interval.same (x -ℤ pos j) (below_in x (past / (16 * hertz)) ((rate * 2 ^ 33 - 1 - past) / (16 * hertz)) j le))
room_past hertz rate false true x past left some h rest sum way =
    let interval = lower_eighths hertz (rate * 2 ^ 32) (rate * 2 ^ 33) past x (omega arith) (omega arith) rest in
    λ j le. same_direction hertz false rate x (x +ℤ pos j) h
    (interval.same (x +ℤ pos j) (above_in x ((rate * 2 ^ 33 - 1 - past) / (16 * hertz)) (past / (16 * hertz)) j le))
room_past hertz rate true true x past left some h rest sum way = absurd (way refl)
room_past hertz rate false false x past left some h rest sum way = absurd (way refl)

-- a delay in its room

pub up-same : (band : Band) (rate room : ℕ) (x y : ℤ) → IsRoom band rate x true room → IsIn x (x +ℤ pos room +ℤ pos 1) y
    → direction_of band rate y ≡ direction_of band rate x
up-same band rate room x y h there =
    subst (λ z. direction_of band rate z ≡ direction_of band rate x) later
    (h (unsigned_abs (y -ℤ x)) (omega (arith, ints, there.not_before, there.before_end)))
  where
    later : x +ℤ pos (unsigned_abs (y -ℤ x)) ≡ y
    later = omega (arith, ints, there.not_before)

pub down-same : (band : Band) (rate room : ℕ) (x y : ℤ) → IsRoom band rate x false room → IsIn (x -ℤ pos room) (x +ℤ pos 1) y
    → direction_of band rate y ≡ direction_of band rate x
down-same band rate room x y h there =
    subst (λ z. direction_of band rate z ≡ direction_of band rate x) earlier
    (h (unsigned_abs (y -ℤ x)) (omega (arith, ints, there.not_before, there.before_end)))
  where
    earlier : x -ℤ pos (unsigned_abs (y -ℤ x)) ≡ y
    earlier = omega (arith, ints, there.before_end)
