-- The bytes of the levels of a vector of bytes.
use Rattle.std.proofs.Common.{◌≡◌, ℕ, ◌+◌, ◌-◌, ◌*◌, ◌/◌, ◌%◌, ◌^◌, ◌<◌, ◌≤◌, ◌≢◌, List, ◌++◌, length, take, get_or, inl, inr, refl, sym, subst, ap, ◌∙◌, arith}
use Rattle.std.specs.Simd.Lanes.{chunk}
use borrow.Rule.Slice.PartMut.{put_mid, post_of}
use Rattle.std.proofs.lemmas.Bool.{cases_lt}
use Rattle.std.proofs.lemmas.List.{length-take-le, get_or-take, get_or_append_left}
use Rattle.std.proofs.lemmas.Nat.{shr-shr, mod_below, div_below}
use Rattle.std.proofs.lemmas.Simd.{get_or-chunk}
use Rattle.std.proofs.Math.Nat.{div-add-mod, mod-le}
use Rattle.std.proofs.Math.Pow.{mod-mod-pow}
use Rattle.sample_unpack.specs.Level.{IsWidth, code_at}
use Rattle.value_codes.specs.Fields.{field_at}
use Rattle.value_codes.specs.Taken.{taken_of}
use Rattle.value_codes.proofs.ByteLemmas.{some-per, in-byte, in-bytes, each-joined}
use Rattle.value_codes.proofs.FieldLemmas.{field-below, bits-of}

-- a byte has one, two, four or eight levels
pub last-step : (step : ℕ) → 8 / step * step ≡ 8 → step ≢ 8 → step ≢ 4 → step ≢ 2 → step ≡ 1
last-step step eight a b c = grind arith

last-above : (step : ℕ) → 8 / step * step ≡ 8 → 4 < step → step ≡ 8
last-above step eight past = grind arith

pub many-levels : (step : ℕ) → 8 / step * step ≡ 8 → step ≢ 8 → step ≤ 4
many-levels step eight other = elim (cases_lt 4 step) [ inl past ↦ absurd (other (last-above step eight past)) | inr few ↦ few ]

-- a table of codes of so many bits from a bit on has the same for all whose lowest bits are the same
pub alike-from : (table : List ℕ) (bits low step : ℕ) → ((x : ℕ) → x < 16 → get_or table x 0 ≡ taken_of bits (x / 2 ^ low % 2 ^ bits)) → low + bits ≤ step
    → (x : ℕ) → x < 16 → get_or table x 0 ≡ get_or table (x % 2 ^ step) 0
alike-from table bits low step is inside x h =
    let less : x % 2 ^ step ≤ x = mod-le x (2 ^ step) in
    is x h ∙ sym (is (x % 2 ^ step) (omega (arith, less, h)) ∙ ap (taken_of bits) (bits-of x low bits step inside))

-- the code at a place in a byte
code-in-byte : (array : List ℕ) (bits place at bit : ℕ) → place ≡ 8 * at + bit → bit < 8 → code_at array bits place ≡ get_or array at 0 / 2 ^ bit % 2 ^ bits
code-in-byte array bits place at bit is below =
    let index : place / 8 ≡ at = omega (arith, is, below) in
    let rest : place % 8 ≡ bit = omega (arith, is, below) in
    ap (λ n. get_or array n 0 / 2 ^ (place % 8) % 2 ^ bits) index ∙ ap (λ n. get_or array at 0 / 2 ^ n % 2 ^ bits) rest

-- the byte of the level of a byte of a vector
pub code-of-byte : (array table : List ℕ) (bits byte low i : ℕ) → IsWidth bits → low < 8
    → ((x : ℕ) → x < 16 → get_or table x 0 ≡ taken_of bits (x / 2 ^ 0 % 2 ^ bits)) → i < 16
    → get_or table (get_or (chunk byte 16 array) i 0 / 2 ^ low % 2 ^ 4) 0 ≡ taken_of bits (code_at array bits (8 * byte + low + i * 8))
code-of-byte array table bits byte low i width below is h =
    let y : ℕ = get_or array (byte + i) 0 / 2 ^ low in
    let few : 4 ≡ 4 - bits + bits = omega (arith, width) in
    let all : y % 16 / 2 ^ 0 ≡ y % 16 = omega arith in
    ap (λ x. get_or table (x / 2 ^ low % 2 ^ 4) 0) (get_or-chunk byte 16 array i 0 h)
    ∙ is (y % 16) (omega arith)
    ∙ ap (taken_of bits)
    (ap (λ z. z % 2 ^ bits) all ∙ ap (λ n. y % 2 ^ n % 2 ^ bits) few ∙ mod-mod-pow y (4 - bits) bits
    ∙ sym (code-in-byte array bits (8 * byte + low + i * 8) (byte + i) low (omega arith) below))

-- and of a level among several
pub code-of-field : (array table : List ℕ) (bits byte low step per i : ℕ) → 0 < bits → low + bits ≤ step → step ≤ 4 → per * step ≡ 8
    → ((x : ℕ) → x < 16 → get_or table x 0 ≡ taken_of bits (x / 2 ^ low % 2 ^ bits)) → i < per * 16
    → get_or table (field_at (chunk byte 16 array) per step i) 0 ≡ taken_of bits (code_at array bits (8 * byte + low + i * step))
code-of-field array table bits byte low step per i some inside narrow eight is h =
    let k : ℕ = i / per in
    let r : ℕ = i % per in
    let each : 0 < per = some-per per step eight in
    let lane : k < 16 = div_below i per 16 each (omega (arith, h)) in
    let x : ℕ = get_or array (byte + k) 0 in
    let bit : low + r * step < 8 = in-byte low step per r eight (omega (arith, some, inside)) (mod_below i per each) in
    let place : 8 * byte + low + i * step ≡ 8 * (byte + k) + (low + r * step) =
    ap (λ n. 8 * byte + low + n * step) (sym (div-add-mod i per)) ∙ in-bytes byte low step per k r eight ∙ omega arith in
    let turned : step * r + low ≡ low + r * step = grind arith in
    ap (λ z. get_or table (z / 2 ^ (step * r) % 2 ^ step) 0) (get_or-chunk byte 16 array k 0 lane)
    ∙ is (x / 2 ^ (step * r) % 2 ^ step) (field-below step _ (x / 2 ^ (step * r)) narrow refl)
    ∙ ap (taken_of bits)
    (bits-of (x / 2 ^ (step * r)) low bits step inside
    ∙ ap (λ z. z % 2 ^ bits) (shr-shr x (step * r) low ∙ ap (λ n. x / 2 ^ n) turned)
    ∙ sym (code-in-byte array bits (8 * byte + low + i * step) (byte + k) (low + r * step) place bit))

-- what holds of each item before a part of a list, and of each of the part where it is written
part-written : (P : ℕ → ℕ → Type 0) (at all : ℕ) (xs part : List ℕ) → at ≤ length xs
    → ((k : ℕ) → k < at → P k (get_or xs k 0)) → ((i : ℕ) → i < length part → P (at + i) (get_or part i 0))
    → (k : ℕ) → k < at + length part → P k (get_or (put_mid at all xs part) k 0)
part-written P at all xs part room before here k h =
    let front : length (take at xs) ≡ at = length-take-le at xs room in
    each-joined P (take at xs) (part ++ post_of at all xs) (length part)
    (λ i below.
    let inside : i < at = omega (arith, below, front) in
    subst (P i) (sym (get_or-take at xs i 0 inside)) (before i inside))
    (λ i below.
    subst (λ n. P (n + i) (get_or (part ++ post_of at all xs) i 0)) (sym front)
    (subst (P (at + i)) (sym (get_or_append_left part (post_of at all xs) 0 i below)) (here i below)))
    k (omega (arith, h, front))

-- the codes of one vector more
pub one-vector-more : (array codes part : List ℕ) (bits byte low step per v all : ℕ) → per * step ≡ 8
    → 16 * per * (v + 1) ≤ length codes → length part ≡ per * 16
    → ((k : ℕ) → k < 16 * per * v → get_or codes k 0 ≡ taken_of bits (code_at array bits (8 * byte + low + k * step)))
    → ((i : ℕ) → i < per * 16 → get_or part i 0 ≡ taken_of bits (code_at array bits (8 * (byte + 16 * v) + low + i * step)))
    → (k : ℕ) → k < 16 * per * (v + 1)
    → get_or (put_mid (16 * per * v) all codes part) k 0 ≡ taken_of bits (code_at array bits (8 * byte + low + k * step))
one-vector-more array codes part bits byte low step per v all eight fits long before here k h =
    let more : 16 * per * (v + 1) ≡ 16 * per * v + per * 16 = grind arith in
    part-written (λ n code. code ≡ taken_of bits (code_at array bits (8 * byte + low + n * step))) (16 * per * v) all codes part
    (omega (arith, fits, more)) before
    (λ i inside.
    let levels : 16 * per * v + i ≡ per * (16 * v) + i = grind arith in
    let place : 8 * byte + low + (16 * per * v + i) * step ≡ 8 * (byte + 16 * v) + low + i * step =
    ap (λ n. 8 * byte + low + n * step) levels ∙ in-bytes byte low step per (16 * v) i eight in
    here i (omega (arith, inside, long)) ∙ ap (λ n. taken_of bits (code_at array bits n)) (sym place))
    k (omega (arith, h, more, long))
