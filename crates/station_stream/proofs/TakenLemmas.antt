-- Levels as bytes: the byte of a level, and those of the frames of a thread.
use Rattle.std.proofs.Common.{◌≡◌, ◌∙◌, refl, sym, ap, ap₂, subst, ℕ, ◌+◌, ◌-◌, ◌*◌, ◌/◌, ◌%◌, ◌<◌, ◌≤◌, ⊎_elim, option_map, true, ℤ, pos, ◌*ℤ◌, unsigned_abs, List, length, get_or, Option, Some, None, arith}
use Rattle.std.specs.Int.{int_rem_euclid}
use Rattle.std.specs.Ordering.{int_eq}
use Rattle.std.proofs.lemmas.Bool.{agree_below, agree_below_at, cases_lt}
use Rattle.std.proofs.lemmas.Bool.Decides.{Decides-int_eq}
use Rattle.std.proofs.lemmas.Nat.{div-add-mod', div-mul-add, mod-mul-add}
use borrow.Rule.Slice.PartMut.{put_mid}
use Rattle.vdif_frame.specs.Shape.{ShapeFields, samples_per_frame}
use Rattle.fringe_rotator.specs.Sector.{sixteenths_of}
use Rattle.fringe_rotator.specs.Table.{cos3, sin3}
use Rattle.corr_model.specs.Rotated.{Band, turned, band_sector}
use Rattle.delay_line.proofs.Floors.{rest_below}
use Rattle.fringe_turns.specs.Direction.{direction_of}
use Rattle.value_codes.specs.Codes.{value_of, turned_by, half_level}
use Rattle.station_stream.specs.declared.thread_frames.ThreadFrames.{ThreadFrames}
use Rattle.station_stream.specs.ThreadFrames.{level_in_frame}
use Rattle.value_codes.specs.Taken.{IsTaken}
use Rattle.station_stream.proofs.PartLemmas.{get_or-before, get_or-inside}

-- ---- bytes of levels

-- two functions of a sector are the same where a table says so
by_sector : (f g : ℕ → ℤ) → agree_below (λ s. int_eq (f s) (g s)) (λ _. true) 16 ≡ true → (s : ℕ) → s < 16 → f s ≡ g s
by_sector f g all s h = (Decides-int_eq (f s) (g s)).0 (agree_below_at (λ s. int_eq (f s) (g s)) (λ _. true) 16 s all h)

-- two sectors side by side turn a level alike
turned-direction : (level : ℤ) (s : ℕ) → s < 16 → turned level s ≡ turned_by level ((s + 1) / 2 % 8)
turned-direction level s h =
    ap₂ (λ c d. (level *ℤ c, level *ℤ d)) (by_sector cos3 (λ s. cos3 (2 * ((s + 1) / 2 % 8))) refl s h)
    (by_sector sin3 (λ s. sin3 (2 * ((s + 1) / 2 % 8))) refl s h)

turned_by-sector : (level : Option ℤ) (s : ℕ) → s < 16
    → option_map (λ x. turned_by x ((s + 1) / 2 % 8)) level ≡ option_map (λ x. turned x s) level
turned_by-sector None s sixteen = refl
turned_by-sector (Some x) s sixteen = ap Some (sym (turned-direction x s sixteen))

place-below : (z : ℤ) → unsigned_abs (int_rem_euclid z (pos 16)) < 16
place-below z =
    let rest = rest_below z 16 (omega arith) in
    rw rest.1 rest.2

-- so the direction of a delay turns a level as its sector does
pub turned_by-direction : (level : Option ℤ) (band : Band) (rate : ℕ) (delay : ℤ)
    → option_map (λ x. turned_by x (direction_of band rate delay)) level ≡ option_map (λ x. turned x (band_sector band rate delay)) level
turned_by-direction level band rate delay =
    turned_by-sector level (band_sector band rate delay) (place-below (sixteenths_of band.hertz band.upper delay rate))

-- a byte has no value where bit 3 is 0, and a half byte's level and a direction where they are added to 8
value_of-none : (code : ℕ) → code < 8 → value_of code ≡ None
value_of-none code eight =
    let none : code / 8 % 2 ≡ 0 = omega (arith, eight) in
    simp none refl

value_of-half : (half direction : ℕ) → half < 16 → direction < 8
    → value_of (8 + 16 * half + direction) ≡ Some (turned_by (half_level half) direction)
value_of-half half direction sixteen eight =
    let some : (8 + 16 * half + direction) / 8 % 2 ≡ 1 = omega (arith, eight) in
    let high : (8 + 16 * half + direction) / 16 % 16 ≡ half = omega (arith, sixteen, eight) in
    let low : (8 + 16 * half + direction) % 8 ≡ direction = omega (arith, eight) in
    simp (some, high, low) refl

-- the byte of a level to which a direction is added
pub value_of-turned : (code direction : ℕ) (level : Option ℤ) → direction < 8 → IsTaken code level
    → value_of ((code + direction) % 256) ≡ option_map (λ x. turned_by x direction) level
value_of-turned code direction None eight taken = value_of-none _ (omega (arith, taken, eight))
value_of-turned code direction (Some level) eight taken =
    let sixteen : taken.0 < 16 = taken.1.0 in
    let is : code ≡ 8 + 16 * taken.0 = taken.1.1.0 in
    let sum : (code + direction) % 256 ≡ 8 + 16 * taken.0 + direction = omega (arith, sixteen, is, eight) in
    ap value_of sum ∙ value_of-half taken.0 direction sixteen eight ∙ ap (λ (x : ℤ). Some (turned_by x direction)) (sym taken.1.1.1)

-- the direction 0 is in it already
pub value_of-taken : (code direction : ℕ) (level : Option ℤ) → direction ≡ 0 → IsTaken code level
    → value_of code ≡ option_map (λ x. turned_by x direction) level
value_of-taken code direction None zero taken = ap value_of taken
value_of-taken code direction (Some level) zero taken =
    let is : code ≡ 8 + 16 * taken.0 = taken.1.1.0 in
    let sum : code ≡ 8 + 16 * taken.0 + direction = omega (arith, is, zero) in
    ap value_of sum ∙ value_of-half taken.0 direction taken.1.0 (omega (arith, zero)) ∙ ap (λ (x : ℤ). Some (turned_by x direction)) (sym taken.1.1.1)

-- ---- levels of the frames

-- sample k of those from `next` on lies in the frame in which that one does
in_row : (next size at k : ℕ) → 0 < size → at ≡ next % size → at + k < size → ((next + k) / size ≡ next / size) × ((next + k) % size ≡ at + k)
in_row next size at k some is below =
    let split : next + k ≡ next / size * size + (at + k) = omega (arith, is, div-add-mod' next size) in
    (ap (λ (n : ℕ). n / size) split ∙ div-mul-add (next / size) size (at + k) below, ap (λ (n : ℕ). n % size) split ∙ mod-mul-add (next / size) size (at + k) below)

-- the level of a sample by its frame and its place there
abbrev pub level_past : ShapeFields → ThreadFrames → ℕ → ℕ → Option ℤ
level_past shape f index n = level_in_frame shape f index (n / samples_per_frame shape) (n % samples_per_frame shape)

-- the bytes of one more frame's part
pub IsTaken-more : (shape : ShapeFields) (f : ThreadFrames) (index past done at count size n : ℕ) (codes part : List ℕ)
    → size ≡ samples_per_frame shape
    → 0 < size
    → at ≡ (past + done) % size
    → at + count ≤ size
    → done + count ≤ length codes
    → length part ≡ count
    → ((k : ℕ) → k < done → IsTaken (get_or codes k 0) (level_past shape f index (past + k)))
    → ((k : ℕ) → k < count → IsTaken (get_or part k 0) (level_in_frame shape f index ((past + done) / size) (at + k)))
    → (k : ℕ) → k < done + count → IsTaken (get_or (put_mid done n codes part) k 0) (level_past shape f index (past + k))
IsTaken-more shape f index past done at count size n codes part is some place room within long before taken k h =
    ⊎_elim
    (λ (early : k < done). subst (λ (code : ℕ). IsTaken code (level_past shape f index (past + k))) (sym (get_or-before codes part done n k 0 early (omega arith))) (before k early))
    (λ (late : done ≤ k).
    let there : done + (k - done) ≡ k = omega arith in
    let sum : past + done + (k - done) ≡ past + k = omega arith in
    let row = in_row (past + done) size at (k - done) some place (omega arith) in
    let code : get_or (put_mid done n codes part) k 0 ≡ get_or part (k - done) 0 =
    ap (λ (i : ℕ). get_or (put_mid done n codes part) i 0) (sym there) ∙ get_or-inside codes part done n (k - done) 0 (omega arith) (omega arith) in
    let level : level_in_frame shape f index ((past + done) / size) (at + (k - done)) ≡ level_past shape f index (past + k) =
    ap (λ (i : ℕ). level_in_frame shape f index i (at + (k - done))) (sym row.0)
    ∙ ap (level_in_frame shape f index ((past + done + (k - done)) / size)) (sym row.1)
    ∙ ap (λ (i : ℕ). level_in_frame shape f index (i / size) (i % size)) sum
    ∙ ap (λ (m : ℕ). level_in_frame shape f index ((past + k) / m) ((past + k) % m)) is in
    subst (λ (c : ℕ). IsTaken c (level_past shape f index (past + k))) (sym code)
    (subst (λ (l : Option ℤ). IsTaken (get_or part (k - done) 0) l) level (taken (k - done) (omega arith))))
    (cases_lt k done)
