-- The slot that counts for a sample is the one that holds the frame in which the sample lies.
use Rattle.std.specs.Prelude.{◌==◌, ◌&&◌, not, is_none, nat_lt, int_le, int_lt, if◌then◌else◌}
use Rattle.std.specs.Bool.{Decides}
use Rattle.std.specs.Ordering.{int_eq}
use Rattle.std.specs.Int.{int_div_euclid, int_rem_euclid}
use Rattle.std.specs.List.{find}
use Rattle.std.proofs.Common.{◌≡◌, ◌∙◌, refl, sym, ap, ℕ, ◌+◌, ◌-◌, ◌*◌, ◌/◌, ◌%◌, ◌≤◌, ◌<◌, ◌⊎◌, ⊎_elim, Bool, true, false, ℤ, pos, negsuc, ◌+ℤ◌, ◌-ℤ◌, ◌*ℤ◌, ◌≤ℤ◌, ◌<ℤ◌, unsigned_abs, List, [], ◌∷◌, Option, Some, None, arith}
use Rattle.std.proofs.lemmas.Bool.Decides.{nat_tests, same_from_decides, Decides-eqb, Decides-int_eq}
use Rattle.std.proofs.lemmas.Int.{ints}
use Rattle.std.proofs.lemmas.Nat.{mul-le, div-add-mod', mod_below, div-mul-add}
use Rattle.vdif_frame.specs.Header.{HeaderFields, fields_of}
use Rattle.vdif_frame.specs.Shape.{ShapeFields, samples_per_frame}
use Rattle.vdif_frame.specs.Agreement.{first_field}
use Rattle.vdif_frame.specs.declared.shape.Field.{Field}
use Rattle.vdif_frame.specs.declared.shape.Field.TheVariants.{Legacy, Length, Channels, Complex, Bits, Station, FrameNumber}
use Rattle.corr_model.specs.Slots.{Slot}
use Rattle.corr_model.specs.Sample.{Timing, agrees_with, covers, counts_for}
use Rattle.corr_model.specs.Frames.{second_in, holds_frame, frame_slot, counted_slot}
use Rattle.frame_index.specs.Placed.{second_of_place, number_of_place}

-- ---- whole seconds and what is left

-- a place is its second's samples and those from there on
pub floor_parts : (p : ℤ) (m : ℕ) → 0 < m → p ≡ int_div_euclid p (pos m) *ℤ pos m +ℤ pos (unsigned_abs (int_rem_euclid p (pos m)))
floor_parts (pos a) m some = omega (arith, ints, div-add-mod' a m)
floor_parts (negsuc a) m some = omega (arith, ints, div-add-mod' a m, mod_below a m some)

pub rest_below : (p : ℤ) (m : ℕ) → 0 < m → unsigned_abs (int_rem_euclid p (pos m)) < m
rest_below (pos a) m some = mod_below a m some
rest_below (negsuc a) m some = omega arith

-- a later second's samples come behind all of an earlier one's
pub product_step : (a b : ℤ) (m : ℕ) → a <ℤ b → (a *ℤ pos m +ℤ pos m) ≤ℤ (b *ℤ pos m)
product_step (pos a) (pos b) m h = omega (arith, ints, mul-le (a + 1) m b m (omega (arith, ints)) (omega arith))
product_step (pos a) (negsuc b) m h = absurd (omega (arith, ints))
product_step (negsuc a) (pos b) m h = omega (arith, ints)
product_step (negsuc a) (negsuc b) m h = omega (arith, ints, mul-le (b + 1) m a m (omega (arith, ints)) (omega arith))

-- ---- frames in a second

-- the sample r of a second lies in the frame of its number
number_is : (r f spf : ℕ) → f * spf ≤ r → r < f * spf + spf → f ≡ r / spf
number_is r f spf low high =
    let parts : f * spf + (r - f * spf) ≡ r = omega arith in
    sym (ap (λ (n : ℕ). n / spf) (sym parts) ∙ div-mul-add f spf (r - f * spf) (omega arith))

int_cases : (a b : ℤ) → (a <ℤ b) ⊎ (b ≤ℤ a)
int_cases a b = grind (arith, ints)

-- a frame that begins in second d, and a place in second q that it covers
pub same_second : (d q d_samples q_samples p : ℤ) (rate r spf before : ℕ)
    → (d <ℤ q → (d_samples +ℤ pos rate) ≤ℤ q_samples) → (q <ℤ d → (q_samples +ℤ pos rate) ≤ℤ d_samples) → (d ≡ q → d_samples ≡ q_samples)
    → before + spf ≤ rate → r < rate → p ≡ q_samples +ℤ pos r
    → (d_samples +ℤ pos before) ≤ℤ p → p <ℤ (d_samples +ℤ pos before +ℤ pos spf)
    → (d ≡ q) × (before ≤ r) × (r < before + spf)
same_second d q d_samples q_samples p rate r spf before earlier later same within below is low high =
    ⊎_elim
    (λ sooner. let step = earlier sooner in absurd (omega (arith, ints)))
    (λ no_sooner. ⊎_elim
    (λ after. let step = later after in absurd (omega (arith, ints)))
    (λ no_later.
    let one : d ≡ q = omega (arith, ints) in
    let begin : d_samples ≡ q_samples = same one in
    (one, omega (arith, ints), omega (arith, ints)))
    (int_cases q d))
    (int_cases d q)

-- both tests pass
pub both-first : (a b : Bool) → (a && b) ≡ true → a ≡ true
both-first true b e = refl
both-first false b e = cc

pub both-second : (a b : Bool) → (a && b) ≡ true → b ≡ true
both-second true b e = e
both-second false b e = cc

both-true : (a b : Bool) → a ≡ true → b ≡ true → (a && b) ≡ true
both-true a b e f = rw (e, f) refl

le_from : (a b : ℤ) → int_le a b ≡ true → a ≤ℤ b
le_from a b h = grind (arith, ints)

lt_from : (a b : ℤ) → int_lt a b ≡ true → a <ℤ b
lt_from a b h = grind (arith, ints)

le_to : (a b : ℤ) → a ≤ℤ b → int_le a b ≡ true
le_to a b h = grind (arith, ints)

lt_to : (a b : ℤ) → a <ℤ b → int_lt a b ≡ true
lt_to a b h = grind (arith, ints)

second_back : (sec start q : ℤ) → sec ≡ start +ℤ q → (sec -ℤ start) ≡ q
second_back sec start q e = omega (arith, ints)

second_on : (sec start q : ℤ) → (sec -ℤ start) ≡ q → sec ≡ start +ℤ q
second_on sec start q e = omega (arith, ints)

at_least : (d q p : ℤ) (before number rest r : ℕ) → d ≡ q → before ≡ number → number + rest ≡ r → p ≡ q +ℤ pos r → (d +ℤ pos before) ≤ℤ p
at_least d q p before number rest r e f g h = omega (arith, ints)

at_most : (d q p : ℤ) (before number rest r spf : ℕ) → d ≡ q → before ≡ number → number + rest ≡ r → rest < spf → p ≡ q +ℤ pos r → p <ℤ (d +ℤ pos before +ℤ pos spf)
at_most d q p before number rest r spf e f g b h = omega (arith, ints)

-- a frame covers a place exactly where it is of the place's second and has its number
covers_decides : (sec start p : ℤ) (rate spf frames f : ℕ) → 0 < spf → 0 < rate → rate ≡ frames * spf → f < frames
    → Decides (int_le ((sec -ℤ start) *ℤ pos rate +ℤ pos (f * spf)) p && int_lt p ((sec -ℤ start) *ℤ pos rate +ℤ pos (f * spf) +ℤ pos spf))
    ((sec ≡ start +ℤ int_div_euclid p (pos rate)) × (f ≡ unsigned_abs (int_rem_euclid p (pos rate)) / spf))
covers_decides sec start p rate spf frames f some rated whole within = (
  λ test.
      let low : (d *ℤ pos rate +ℤ pos (f * spf)) ≤ℤ p = le_from (d *ℤ pos rate +ℤ pos (f * spf)) p (both-first _ _ test) in
      let high : p <ℤ (d *ℤ pos rate +ℤ pos (f * spf) +ℤ pos spf) = lt_from p (d *ℤ pos rate +ℤ pos (f * spf) +ℤ pos spf) (both-second _ _ test) in
      let found = same_second d q (d *ℤ pos rate) (q *ℤ pos rate) p rate r spf (f * spf) (product_step d q rate) (product_step q d rate) (λ e. ap (λ (z : ℤ). z *ℤ pos rate) e) last below parts low high in
      let second : d ≡ q = found.0 in
      (second_on sec start q second, number_is r f spf found.1 found.2),
  λ is.
      let second : d ≡ q = back is.0 in
      let samples : d *ℤ pos rate ≡ q *ℤ pos rate = ap (λ (z : ℤ). z *ℤ pos rate) second in
      let left = div-add-mod' r spf in
      let rest = mod_below r spf some in
      let number : f * spf ≡ r / spf * spf = ap (λ (n : ℕ). n * spf) is.1 in
      both-true _ _ (le_to (d *ℤ pos rate +ℤ pos (f * spf)) p (at_least (d *ℤ pos rate) (q *ℤ pos rate) p (f * spf) (r / spf * spf) (r % spf) r samples number left parts))
      (lt_to p (d *ℤ pos rate +ℤ pos (f * spf) +ℤ pos spf) (at_most (d *ℤ pos rate) (q *ℤ pos rate) p (f * spf) (r / spf * spf) (r % spf) r spf samples number left rest parts)),
)
  where
    d : ℤ
    d = sec -ℤ start

    q : ℤ
    q = int_div_euclid p (pos rate)

    r : ℕ
    r = unsigned_abs (int_rem_euclid p (pos rate))

    parts : p ≡ int_div_euclid p (pos rate) *ℤ pos rate +ℤ pos (unsigned_abs (int_rem_euclid p (pos rate)))
    parts = floor_parts p rate rated

    below : unsigned_abs (int_rem_euclid p (pos rate)) < rate
    below = rest_below p rate rated

    last : f * spf + spf ≤ rate
    last = omega (arith, mul-le (f + 1) spf frames spf (omega arith) (omega arith), whole)

    back : sec ≡ start +ℤ int_div_euclid p (pos rate) → (sec -ℤ start) ≡ int_div_euclid p (pos rate)
    back e = second_back sec start (int_div_euclid p (pos rate)) e

-- ---- slots

chain : (a b c d e f g : Bool) → (if a then Some Legacy else if b then Some Length else if c then Some Channels else if d then Some Complex else if e then Some Bits else if f then Some Station else if not g then Some FrameNumber else None) ≡ None
    → g ≡ true
chain true b c d e f g h = cc
chain false true c d e f g h = cc
chain false false true d e f g h = cc
chain false false false true e f g h = cc
chain false false false false true f g h = cc
chain false false false false false true g h = cc
chain false false false false false false true h = refl
chain false false false false false false false h = cc

-- the number of a frame that agrees is below the frames in a second
number_below : (h : HeaderFields) (s : ShapeFields) → first_field h s ≡ None → nat_lt h.frame s.frames ≡ true
unfolding first_field
number_below h s e = chain _ _ _ _ _ _ _ e

none_from : (o : Option Field) → is_none o ≡ true → o ≡ None
none_from None e = refl
none_from (Some f) e = cc

-- a shape whose frames fill each second
pub record FillsSeconds (t : Timing) : Type 0 where
  pub some : 0 < samples_per_frame t.shape
  pub rated : 0 < t.rate
  pub whole : t.rate ≡ t.shape.frames * samples_per_frame t.shape

lt_of : (a b : ℕ) → nat_lt a b ≡ true → a < b
lt_of a b e = grind (arith, nat_tests)

Decides-and : (a b : Bool) (P Q : Type 0) → Decides a P → Decides b Q → Decides (a && b) (P × Q)
Decides-and a b P Q first second = (
  λ e. (first.0 (both-first a b e), second.0 (both-second a b e)),
  λ pair. both-true a b (first.1 pair.0) (second.1 pair.1),
)

covers-frame : (t : Timing) (p : ℤ) (slot : List ℕ) → FillsSeconds t → agrees_with t.shape slot ≡ true
    → covers t slot p ≡ (int_eq (second_in slot) (second_of_place t p) && ((fields_of slot).frame == number_of_place t p))
covers-frame t p slot fills agrees =
    let below : (fields_of slot).frame < t.shape.frames = lt_of (fields_of slot).frame t.shape.frames (number_below (fields_of slot) t.shape (none_from _ agrees)) in
    same_from_decides _ _
    (covers_decides (second_in slot) t.start p t.rate (samples_per_frame t.shape) t.shape.frames (fields_of slot).frame fills.some fills.rated fills.whole below)
    (Decides-and (int_eq (second_in slot) (second_of_place t p)) ((fields_of slot).frame == number_of_place t p) _ _
    (Decides-int_eq (second_in slot) (second_of_place t p)) (Decides-eqb (fields_of slot).frame (number_of_place t p)))

and_same : (a x y : Bool) → (a ≡ true → x ≡ y) → (a && x) ≡ (a && y)
and_same true x y e = e refl
and_same false x y e = refl

-- a slot counts for a sample exactly where it holds the frame in which the sample lies
pub counts_for-holds_frame : (t : Timing) (thread : ℕ) (p : ℤ) (slot : List ℕ) → FillsSeconds t
    → counts_for t thread p slot ≡ holds_frame t.shape thread (second_of_place t p) (number_of_place t p) slot
counts_for-holds_frame t thread p slot fills =
    and_same (agrees_with t.shape slot) _ _
    (λ agrees. ap (λ (b : Bool). not (fields_of slot).invalid && (((fields_of slot).thread == thread) && b)) (covers-frame t p slot fills agrees))

find-same : (p q : Slot → Bool) (slots : List Slot) → ((slot : Slot) → p slot ≡ q slot) → find p slots ≡ find q slots
find-same p q [] same = refl
find-same p q (x ∷ slots) same = rw (same x, find-same p q slots same) refl

-- the slot that counts for a sample is the first that holds the frame in which it lies, and there is none exactly where there is no such slot
pub counted_slot-frame_slot : (t : Timing) (thread : ℕ) (p : ℤ) (slots : List Slot) → FillsSeconds t
    → counted_slot t thread slots p ≡ frame_slot t.shape slots thread (second_of_place t p) (number_of_place t p)
counted_slot-frame_slot t thread p slots fills =
    find-same (λ (slot : Slot). counts_for t thread p slot.bytes) (λ (slot : Slot). holds_frame t.shape thread (second_of_place t p) (number_of_place t p) slot.bytes) slots
    (λ slot. counts_for-holds_frame t thread p slot.bytes fills)
