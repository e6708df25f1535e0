-- The samples of a channel in the data array of a slot.
use Rattle.std.proofs.Common.{◌≡◌, ◌∙◌, ap, subst, sym, ℕ, ◌+◌, ◌-◌, ◌*◌, ◌≤◌, ◌<◌, ℤ, List, length, take, drop, get_or, Some, arith}
use Rattle.std.proofs.lemmas.Bool.Decides.{nat_tests}
use Rattle.std.proofs.lemmas.List.{length-drop, take_rest}
use Rattle.std.proofs.lemmas.Nat.{div-add-mod', mul-le}
use Rattle.vdif_frame.specs.Shape.{ShapeFields, IsShape, head_bytes, chans_of, samples_per_frame}
use Rattle.sample_unpack.specs.Level.{IsWidth, level_at, bit_of}
use Rattle.value_codes.specs.Taken.{IsTaken}

-- the bits of a sample
pub IsWidth-of : (s : ShapeFields) (bits : ℕ) → IsShape s → bits ≡ s.bits → IsWidth bits
IsWidth-of s bits shape is = subst IsWidth (sym is) (grind (arith, nat_tests, shape.bits))

-- a sample's bits end where the next one's begin, and those of the last one at the end
bits_within : (n spf chans chan bits : ℕ) → n < spf → chan < chans → bit_of bits chans chan n + bits ≤ spf * (bits * chans)
bits_within n spf chans chan bits before there =
    let row : (n + 1) * chans ≡ n * chans + chans = grind arith in
    let first : n * chans + chan + 1 ≤ spf * chans = omega (arith, there, row, mul-le (n + 1) chans spf chans (omega (arith, before)) (omega arith)) in
    let sum : (n * chans + chan) * bits + bits ≡ (n * chans + chan + 1) * bits = grind arith in
    let all : spf * chans * bits ≡ spf * (bits * chans) = grind arith in
    omega (arith, sum, all, mul-le (n * chans + chan + 1) bits (spf * chans) bits first (omega arith))

-- the samples of a frame lie in its data array
pub bit_of-slot : (s : ShapeFields) (slot : List ℕ) (head bits chans chan at count : ℕ) → IsShape s
    → length slot ≡ s.frame_bytes → head ≡ head_bytes s.legacy → bits ≡ s.bits → chans ≡ chans_of s
    → chan < chans_of s → at + count ≤ samples_per_frame s
    → (i : ℕ) → i < count → bit_of bits chans chan (at + i) + bits ≤ 8 * length (take (length slot - head) (drop head slot))
bit_of-slot s slot head bits chans chan at count shape long head_is bits_is chans_is there room i before =
    let within : bit_of s.bits (chans_of s) chan (at + i) + s.bits ≤ samples_per_frame s * (s.bits * chans_of s) =
    bits_within (at + i) (samples_per_frame s) (chans_of s) chan s.bits (omega (arith, room, before)) there in
    let all : samples_per_frame s * (s.bits * chans_of s) ≡ 8 * (s.frame_bytes - head_bytes s.legacy) =
    omega (arith, shape.whole, div-add-mod' (8 * (s.frame_bytes - head_bytes s.legacy)) (s.bits * chans_of s)) in
    let size : length (take (length slot - head) (drop head slot)) ≡ s.frame_bytes - head_bytes s.legacy =
    ap length (take_rest slot head) ∙ length-drop head slot ∙ omega (arith, long, head_is) in
    let same : bit_of bits chans chan (at + i) + bits ≡ bit_of s.bits (chans_of s) chan (at + i) + s.bits = cc in
    omega (arith, within, all, size, same)

-- the codes of a data array's levels are those of the slot's
pub IsTaken-array : (s : ShapeFields) (slot codes : List ℕ) (head bits chans chan at count : ℕ)
    → head ≡ head_bytes s.legacy → bits ≡ s.bits → chans ≡ chans_of s
    → ((k : ℕ) → k < count → IsTaken (get_or codes k 0) (Some (level_at (take (length slot - head) (drop head slot)) bits chans chan (at + k))))
    → (k : ℕ) → k < count → IsTaken (get_or codes k 0) (Some (level_at (drop (head_bytes s.legacy) slot) s.bits (chans_of s) chan (at + k)))
IsTaken-array s slot codes head bits chans chan at count head_is bits_is chans_is taken k h =
    subst (λ (level : ℤ). IsTaken (get_or codes k 0) (Some level))
    (ap (λ (array : List ℕ). level_at array bits chans chan (at + k)) (take_rest slot head)
    ∙ ap (λ (n : ℕ). level_at (drop n slot) bits chans chan (at + k)) head_is
    ∙ ap (λ (n : ℕ). level_at (drop (head_bytes s.legacy) slot) n chans chan (at + k)) bits_is
    ∙ ap (λ (n : ℕ). level_at (drop (head_bytes s.legacy) slot) s.bits n chan (at + k)) chans_is)
    (taken k h)
