-- The places of frames fit 128 bits.
use Rattle.std.proofs.Common.{◌≡◌, ℕ, ◌*◌, ◌^◌, ◌≤◌, ◌<◌, ℤ, pos, ◌+ℤ◌, ◌-ℤ◌, ◌*ℤ◌, FitsSigned, w64, to_z, of_z, unsigned_abs, arith, refl}
use Rattle.std.specs.Int.{w128}
use Rattle.std.proofs.lemmas.Int.{ints, to_z-of_z, unsigned_abs-mul, fits_signed_from_abs}
use Rattle.std.proofs.lemmas.Nat.{mul-le}

-- the seconds from a start to a second of an epoch, with each step at 128 bits
pub since_is : (a b d epoch start : ℤ) (seconds : ℕ) → a ≡ epoch → b ≡ pos seconds → d ≡ start → FitsSigned w64 epoch
    → FitsSigned w64 start
    → seconds < 2 ^ 30
    → to_z w128 (of_z w128 (to_z w128 (of_z w128 (to_z w128 (of_z w128 a) +ℤ to_z w128 (of_z w128 b))) -ℤ to_z w128 (of_z w128 d)))
    ≡ (epoch +ℤ pos seconds) -ℤ start
since_is a b d epoch start seconds p q r e s n = omega (arith, ints)

-- the samples of these seconds
samples_since : (z r : ℤ) (rate : ℕ) → r ≡ pos rate → unsigned_abs z ≤ 2 ^ 66 → rate < 2 ^ 32 → unsigned_abs (z *ℤ r) ≤ 2 ^ 98
samples_since z r rate e h k =
    let product = mul-le (unsigned_abs z) rate (2 ^ 66) (2 ^ 32) h (omega (arith, k)) in
    rw e (omega (arith, unsigned_abs-mul z (pos rate), product))

-- the samples of the frames before in the same second
samples_before : (f s : ℤ) (frame samples : ℕ) → f ≡ pos frame → s ≡ pos samples → frame < 2 ^ 24 → samples ≤ 1048576
    → unsigned_abs (f *ℤ s) ≤ 2 ^ 44
samples_before f s frame samples p q h k =
    let product = mul-le frame samples (2 ^ 24) 1048576 (omega (arith, h)) k in rw (p, q) (omega (arith, product))

pub samples_since_fits : (z r : ℤ) (rate : ℕ) → r ≡ pos rate → unsigned_abs z ≤ 2 ^ 66 → rate < 2 ^ 32
    → FitsSigned w128 (to_z w128 (of_z w128 z) *ℤ to_z w128 (of_z w128 r))
samples_since_fits z r rate e h k =
    let f : FitsSigned w128 z = fits_signed_from_abs w128 z (omega (arith, h)) in
    let g : FitsSigned w128 r = omega (arith, ints) in
    let product = samples_since z r rate e h k in
    simp to_z-of_z (fits_signed_from_abs w128 (z *ℤ r) (omega (arith, product)))

-- the place of a frame's first sample, with each step at 128 bits
pub place_is : (z r f s : ℤ) (rate frame samples : ℕ) → r ≡ pos rate → f ≡ pos frame → s ≡ pos samples → unsigned_abs z ≤ 2 ^ 66
    → rate < 2 ^ 32
    → frame < 2 ^ 24
    → samples ≤ 1048576
    → (let sum : ℤ = to_z w128 (of_z w128 (to_z w128 (of_z w128 z) *ℤ to_z w128 (of_z w128 r))) +ℤ to_z w128 (of_z w128 (to_z w128 (of_z w128 f) *ℤ to_z w128 (of_z w128 s)))
    in FitsSigned w128 sum × (to_z w128 (of_z w128 sum) ≡ z *ℤ pos rate +ℤ pos (frame * samples)))
place_is z r f s rate frame samples er ef es hz hr hf hs =
    let product = samples_since z r rate er hz hr in
    let within = samples_before f s frame samples ef es hf hs in
    let fz : FitsSigned w128 z = fits_signed_from_abs w128 z (omega (arith, hz)) in
    let fr : FitsSigned w128 r = omega (arith, ints) in
    let ff : FitsSigned w128 f = omega (arith, ints) in
    let fs : FitsSigned w128 s = omega (arith, ints) in
    let fzr : FitsSigned w128 (z *ℤ r) = fits_signed_from_abs w128 (z *ℤ r) (omega (arith, product)) in
    let ffs : FitsSigned w128 (f *ℤ s) = fits_signed_from_abs w128 (f *ℤ s) (omega (arith, within)) in
    let sum : FitsSigned w128 (z *ℤ r +ℤ f *ℤ s) = omega (arith, ints, product, within) in
    (simp to_z-of_z sum, simp to_z-of_z (rw (er, ef, es) refl))
