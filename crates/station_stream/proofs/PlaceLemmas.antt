-- The samples that lie in one frame.
use Rattle.std.specs.Int.{int_div_euclid, int_rem_euclid}
use Rattle.std.proofs.Common.{◌≡◌, ◌∙◌, refl, sym, ap, ap₂, to_z, of_z, w64, ℕ, ◌+◌, ◌*◌, ◌/◌, ◌%◌, ◌^◌, ◌≤◌, ◌<◌, ◌⊎◌, ⊎_elim, ℤ, pos, negsuc, ◌+ℤ◌, ◌-ℤ◌, ◌*ℤ◌, ◌≤ℤ◌, ◌<ℤ◌, unsigned_abs, arith}
use Rattle.std.proofs.lemmas.Bool.{cases_lt}
use Rattle.std.proofs.lemmas.Int.{ints}
use Rattle.std.proofs.lemmas.Nat.{mul-le, div-add-mod', div-mul-add}
use Rattle.std.proofs.Math.Nat.{div-le_self}
use Rattle.num_time.specs.Times.{IsSecond}
use Rattle.vdif_frame.specs.Shape.{samples_per_frame}
use Rattle.corr_model.specs.Sample.{Timing}
use Rattle.frame_index.specs.Placed.{second_of_place, place_in_second, number_of_place, sample_in_frame}
use Rattle.frame_index.proofs.FrameLaw.{FillsSeconds, floor_parts, rest_below, product_step, same_second}
use Rattle.station_stream.specs.declared.place.FramePlace.{FramePlace}
use Rattle.station_stream.specs.Place.{frame_place}

-- ---- frames in a second

-- whole seconds and a rest below one second are told by their sum
same_parts : (q s q_samples s_samples : ℤ) (r u rate : ℕ)
    → (q <ℤ s → (q_samples +ℤ pos rate) ≤ℤ s_samples) → (s <ℤ q → (s_samples +ℤ pos rate) ≤ℤ q_samples) → (q ≡ s → q_samples ≡ s_samples)
    → r < rate → u < rate → (q_samples +ℤ pos r) ≡ (s_samples +ℤ pos u)
    → (q ≡ s) × (r ≡ u)
same_parts q s q_samples s_samples r u rate earlier later within below also is =
    let found = same_second q s q_samples s_samples (q_samples +ℤ pos r) rate u 1 r earlier later within (omega (arith, below)) also is (omega (arith, ints)) (omega (arith, ints)) in
    (found.0, omega (arith, found.1, found.2))

-- the last sample of a frame lies in the second of the others
frame_last : (r frames spf rate : ℕ) → rate ≡ frames * spf → r < rate → r / spf * spf + spf ≤ rate
frame_last r frames spf rate whole below =
    ⊎_elim
    (λ (within : r / spf < frames). omega (arith, mul-le (r / spf + 1) spf frames spf (omega arith) (omega arith), whole))
    (λ (past : frames ≤ r / spf). absurd (omega (arith, mul-le frames spf (r / spf) spf past (omega arith), div-add-mod' r spf, whole)))
    (cases_lt (r / spf) frames)

-- the samples from a frame's first one to another of its samples
offset_below : (start x : ℤ) (spf : ℕ) → start ≤ℤ x → x <ℤ (start +ℤ pos spf) → unsigned_abs (x -ℤ start) < spf
offset_below start x spf low high = omega (arith, ints)

offset_is : (start x : ℤ) → start ≤ℤ x → x ≡ start +ℤ pos (unsigned_abs (x -ℤ start))
offset_is start x low = omega (arith, ints)

-- a sample told by its own second, and by the frame of another sample
sum_is : (p x q_samples x_samples : ℤ) (r before s k u : ℕ) → p ≡ q_samples +ℤ pos r → before + s ≡ r → x ≡ x_samples +ℤ pos u → x ≡ (p -ℤ pos s) +ℤ pos k
    → (q_samples +ℤ pos (before + k)) ≡ (x_samples +ℤ pos u)
sum_is p x q_samples x_samples r before s k u p_is r_is x_is x_from = omega (arith, ints)

-- the first sample told by another sample of the frame
start_is : (p x : ℤ) (s k rest : ℕ) → x ≡ (p -ℤ pos s) +ℤ pos k → rest ≡ k → (x -ℤ pos rest) ≡ (p -ℤ pos s)
start_is p x s k rest x_from e = omega (arith, ints)

-- what is left behind the same whole frames
rest_is : (a b c d e : ℕ) → a + c ≡ d → b + e ≡ d → a ≡ b → c ≡ e
rest_is a b c d e f g h = omega arith

-- a sample that is no more than a frame's samples past the first one of the frame in which p lies
in_frame : (p x : ℤ) (rate spf frames : ℕ) → 0 < spf → 0 < rate → rate ≡ frames * spf
    → (p -ℤ pos (unsigned_abs (int_rem_euclid p (pos rate)) % spf)) ≤ℤ x
    → x <ℤ ((p -ℤ pos (unsigned_abs (int_rem_euclid p (pos rate)) % spf)) +ℤ pos spf)
    → (int_div_euclid x (pos rate) ≡ int_div_euclid p (pos rate))
    × ((unsigned_abs (int_rem_euclid x (pos rate)) / spf ≡ unsigned_abs (int_rem_euclid p (pos rate)) / spf)
    × ((x -ℤ pos (unsigned_abs (int_rem_euclid x (pos rate)) % spf)) ≡ (p -ℤ pos (unsigned_abs (int_rem_euclid p (pos rate)) % spf))))
in_frame p x rate spf frames some rated whole low high =
    (sym seconds, (numbers, start_is p x (r % spf) k (u % spf) from rests))
  where
    q : ℤ
    q = int_div_euclid p (pos rate)

    r : ℕ
    r = unsigned_abs (int_rem_euclid p (pos rate))

    y : ℤ
    y = int_div_euclid x (pos rate)

    u : ℕ
    u = unsigned_abs (int_rem_euclid x (pos rate))

    k : ℕ
    k = unsigned_abs (x -ℤ (p -ℤ pos (unsigned_abs (int_rem_euclid p (pos rate)) % spf)))

    below : k < spf
    below = offset_below (p -ℤ pos (unsigned_abs (int_rem_euclid p (pos rate)) % spf)) x spf low high

    from : x ≡ (p -ℤ pos (unsigned_abs (int_rem_euclid p (pos rate)) % spf)) +ℤ pos k
    from = offset_is (p -ℤ pos (unsigned_abs (int_rem_euclid p (pos rate)) % spf)) x low

    last : r / spf * spf + spf ≤ rate
    last = frame_last r frames spf rate whole (rest_below p rate rated)

    sum : (q *ℤ pos rate +ℤ pos (r / spf * spf + k)) ≡ (y *ℤ pos rate +ℤ pos u)
    sum = sum_is p x (q *ℤ pos rate) (y *ℤ pos rate) r (r / spf * spf) (r % spf) k u (floor_parts p rate rated) (div-add-mod' r spf) (floor_parts x rate rated) from

    same : (q ≡ y) × (r / spf * spf + k ≡ u)
    same = same_parts q y (q *ℤ pos rate) (y *ℤ pos rate) (r / spf * spf + k) u rate (product_step q y rate) (product_step y q rate)
        (λ e. ap (λ (z : ℤ). z *ℤ pos rate) e) (omega (arith, last, below)) (rest_below x rate rated) sum

    seconds : q ≡ y
    seconds = same.0

    numbers : u / spf ≡ r / spf
    numbers = ap (λ (n : ℕ). n / spf) (sym same.1) ∙ div-mul-add (r / spf) spf k below

    rests : u % spf ≡ k
    rests = rest_is (u / spf * spf) (r / spf * spf) (u % spf) u k (div-add-mod' u spf) same.1 (ap (λ (n : ℕ). n * spf) numbers)

-- a frame's place from its parts
abbrev made : ℤ → ℕ → ℤ → FramePlace
made second number start = record { second = second; number = number; start = start }

place_is : (second second' : ℤ) (number number' : ℕ) (start start' : ℤ) → second ≡ second' → number ≡ number' → start ≡ start'
    → made second number start ≡ made second' number' start'
place_is second second' number number' start start' e f g = rw (e, f, g) refl

-- its samples lie in the frame in which p lies
pub frame_place-in : (t : Timing) (p x : ℤ) → FillsSeconds t
    → (p -ℤ pos (sample_in_frame t p)) ≤ℤ x → x <ℤ ((p -ℤ pos (sample_in_frame t p)) +ℤ pos (samples_per_frame t.shape))
    → frame_place t p ≡ frame_place t x
frame_place-in t p x fills low high =
    let same = in_frame p x t.rate (samples_per_frame t.shape) t.shape.frames fills.some fills.rated fills.whole low high in
    place_is (second_of_place t p) (second_of_place t x) (number_of_place t p) (number_of_place t x) (p -ℤ pos (sample_in_frame t p)) (x -ℤ pos (sample_in_frame t x))
    (ap (λ (q : ℤ). t.start +ℤ q) (sym same.0)) (sym same.1.0) (sym same.1.1)

-- the first sample from whole seconds and whole frames
join : (a b p : ℤ) (m n s r : ℕ) → a ≡ b → m ≡ n → p ≡ b +ℤ pos r → n + s ≡ r → (a +ℤ pos m) ≡ (p -ℤ pos s)
join a b p m n s r e f g h = omega (arith, ints)

-- the frame's first sample as its header says it
pub start_of_frame : (second start q p : ℤ) (frame number s r rate spf : ℕ) → second ≡ start +ℤ q → frame ≡ number → p ≡ q *ℤ pos rate +ℤ pos r → number * spf + s ≡ r
    → ((second -ℤ start) *ℤ pos rate +ℤ pos (frame * spf)) ≡ (p -ℤ pos s)
start_of_frame second start q p frame number s r rate spf e f p_is r_is =
    let since : (second -ℤ start) ≡ q = omega (arith, ints) in
    join ((second -ℤ start) *ℤ pos rate) (q *ℤ pos rate) p (frame * spf) (number * spf) s r (ap (λ (z : ℤ). z *ℤ pos rate) since) (ap (λ (n : ℕ). n * spf) f) p_is r_is

-- a sample's number in its frame
pub place_back : (p : ℤ) (s : ℕ) → unsigned_abs (p -ℤ (p -ℤ pos s)) ≡ s
place_back p s = omega (arith, ints)

-- ---- the place in 64 bits

-- the whole seconds are few, and the rest is not negative
small_quotient : (p : ℤ) (m : ℕ) → unsigned_abs p < 2 ^ 61 → unsigned_abs (int_div_euclid p (pos m)) ≤ 2 ^ 61
small_quotient (pos a) m h = omega (arith, div-le_self a m, h)
small_quotient (negsuc a) m h = omega (arith, div-le_self a m, h)

rest_positive : (p : ℤ) (m : ℕ) → int_rem_euclid p (pos m) ≡ pos (unsigned_abs (int_rem_euclid p (pos m)))
rest_positive (pos a) m = refl
rest_positive (negsuc a) m = refl

-- a second of the scan and a place in it fit 64 bits
sum_fits : (second d start q : ℤ) → second ≡ start → d ≡ q → pos 0 ≤ℤ start → start <ℤ pos 4102444800 → unsigned_abs q ≤ 2 ^ 61
    → to_z w64 (of_z w64 (to_z w64 (of_z w64 second) +ℤ to_z w64 (of_z w64 d))) ≡ start +ℤ q
sum_fits second d start q e f low high small = omega (arith, ints)

difference_fits : (p rest : ℤ) (s rate : ℕ) → unsigned_abs p < 2 ^ 61 → rest ≡ pos s → s < 2 ^ 32
    → to_z w64 (of_z w64 (to_z w64 (of_z w64 p) -ℤ to_z w64 (of_z w64 rest))) ≡ p -ℤ pos s
difference_fits p rest s rate h e small = omega (arith, ints)

-- the place as the program works it out
pub frame_place-of : (t : Timing) (second p d rem rest rate : ℤ) (size : ℕ)
    → unsigned_abs p < 2 ^ 61 → IsSecond t.start → 0 < t.rate → t.rate < 2 ^ 32 → 0 < size
    → second ≡ t.start → rate ≡ pos t.rate → size ≡ samples_per_frame t.shape
    → d ≡ int_div_euclid (to_z w64 (of_z w64 p)) (to_z w64 (of_z w64 rate))
    → rem ≡ int_rem_euclid (to_z w64 (of_z w64 p)) (to_z w64 (of_z w64 rate))
    → rest ≡ pos (unsigned_abs (to_z w64 (of_z w64 rem)) % size)
    → made (to_z w64 (of_z w64 (to_z w64 (of_z w64 second) +ℤ to_z w64 (of_z w64 d))))
    (unsigned_abs (to_z w64 (of_z w64 rem)) / size)
    (to_z w64 (of_z w64 (to_z w64 (of_z w64 p) -ℤ to_z w64 (of_z w64 rest))))
    ≡ frame_place t p
frame_place-of t second p d rem rest rate size near start some_rate small_rate some second_is rate_is size_is d_is rem_is rest_eq =
    let p_same : to_z w64 (of_z w64 p) ≡ p = omega (arith, ints) in
    let rate_same : to_z w64 (of_z w64 rate) ≡ pos t.rate = omega (arith, ints) in
    let quotient : d ≡ int_div_euclid p (pos t.rate) = d_is ∙ ap₂ (λ (a : ℤ) (b : ℤ). int_div_euclid a b) p_same rate_same in
    let remainder : rem ≡ pos (place_in_second t p) = rem_is ∙ ap₂ (λ (a : ℤ) (b : ℤ). int_rem_euclid a b) p_same rate_same ∙ rest_positive p t.rate in
    let below : place_in_second t p < t.rate = rest_below p t.rate some_rate in
    let within : unsigned_abs (to_z w64 (of_z w64 rem)) ≡ place_in_second t p = within_is rem (place_in_second t p) remainder (omega (arith, below, small_rate)) in
    let left : rest ≡ pos (sample_in_frame t p) = rest_eq ∙ ap₂ (λ (a : ℕ) (b : ℕ). pos (a % b)) within size_is in
    let left_below : sample_in_frame t p < 2 ^ 32 = omega (arith, mod-le (place_in_second t p) (samples_per_frame t.shape), below, small_rate) in
    place_is _ (second_of_place t p) _ (number_of_place t p) _ (p -ℤ pos (sample_in_frame t p))
    (sum_fits second d t.start (int_div_euclid p (pos t.rate)) second_is quotient start.from_1970 start.to_2099 (small_quotient p t.rate near))
    (ap₂ (λ (a : ℕ) (b : ℕ). a / b) within size_is)
    (difference_fits p rest (sample_in_frame t p) t.rate near left left_below)
  where
    within_is : (rem : ℤ) (n : ℕ) → rem ≡ pos n → n < 2 ^ 32 → unsigned_abs (to_z w64 (of_z w64 rem)) ≡ n
    within_is rem n e h = omega (arith, ints)

    mod-le : (a b : ℕ) → a % b ≤ a
    mod-le a b = omega (arith, div-add-mod' a b)
