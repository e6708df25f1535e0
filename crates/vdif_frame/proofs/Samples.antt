-- The samples of a frame.
use Rattle.std.proofs.Common.{◌≡◌, ℕ, ◌-◌, ◌*◌, ◌%◌, ◌≤◌, ◌<◌, zero, suc, arith}
use Rattle.std.proofs.lemmas.Nat.{pow_pos, mul-le, div-add-mod'}
use Rattle.std.proofs.lemmas.Bool.Decides.{nat_tests}
use Rattle.std.proofs.Math.Nat.{div-le_self}
use Rattle.std.proofs.Math.Pow.{pow_mono}
use Rattle.vdif_frame.specs.Shape.{ShapeFields, IsShape, samples_per_frame, head_bytes, chans_of}

-- a sample has one to four bits
pub bits_some : (s : ShapeFields) → IsShape s → 1 ≤ s.bits
bits_some s h = grind (arith, nat_tests, h.bits)

pub bits_most : (s : ShapeFields) → IsShape s → s.bits ≤ 4
bits_most s h = grind (arith, nat_tests, h.bits)

-- there are one to 64 channels
pub chans_some : (s : ShapeFields) → IsShape s → 1 ≤ chans_of s
chans_some s h = omega (arith, pow_pos s.chans_log2)

pub chans_most : (s : ShapeFields) → IsShape s → chans_of s ≤ 64
chans_most s h = pow_mono h.chans

-- a complete sample has some bits, 256 at most
pub sample_some : (s : ShapeFields) → IsShape s → 1 ≤ s.bits * chans_of s
sample_some s h = mul-le 1 1 s.bits (chans_of s) (bits_some s h) (chans_some s h)

pub sample_most : (s : ShapeFields) → IsShape s → s.bits * chans_of s ≤ 256
sample_most s h = mul-le s.bits (chans_of s) 4 64 (bits_most s h) (chans_most s h)

-- the complete samples of a frame fill its data
pub samples_per_frame-mul : (s : ShapeFields) → IsShape s → samples_per_frame s * (s.bits * chans_of s) ≡ 8 * (s.frame_bytes - head_bytes s.legacy)
samples_per_frame-mul s h =
    let bits_all : ℕ = 8 * (s.frame_bytes - head_bytes s.legacy) in
    let size : ℕ = s.bits * chans_of s in
    let whole : bits_all % size ≡ 0 = h.whole in
    omega (arith, div-add-mod' bits_all size, whole)

pub samples_per_frame_most : (s : ShapeFields) → IsShape s → samples_per_frame s ≤ 1048576
samples_per_frame_most s h =
    let bits_all : ℕ = 8 * (s.frame_bytes - head_bytes s.legacy) in
    omega (arith, h.most, div-le_self bits_all (s.bits * chans_of s))

-- there is one at least
samples_some : (n size all : ℕ) → n * size ≡ all → 0 < all → 0 < n
samples_some zero size all e h = absurd (omega (arith, e, h))
samples_some (suc n) size all e h = omega arith

pub samples_per_frame_some : (s : ShapeFields) → IsShape s → 0 < samples_per_frame s
samples_per_frame_some s h =
    samples_some _ _ _ (samples_per_frame-mul s h) (omega (arith, h.least))
