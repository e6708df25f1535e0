use Rattle.std.proofs.Common.{◌≡◌, ◌≤◌, ◌^◌, ◌∙◌, ap, ℕ, ℤ, pos, ◌*ℤ◌, unsigned_abs, w32, w64, to_z, of_z, Fits, FitsSigned, arith}
use Rattle.std.specs.Int.{w128}
use Rattle.std.proofs.lemmas.Int.{ints, to_z-of_z, fits_signed_mul}
use Rattle.job_join.proofs.reach.samples_in_seconds.Goals as goal

-- the factors and their product, in words of 128 bits
record IsProduct (x y seconds : ℤ) (rate : ℕ) : Type 0 where
  first : to_z w128 (of_z w128 x) ≡ seconds
  second : to_z w128 (of_z w128 y) ≡ pos rate
  fits : FitsSigned w128 (seconds *ℤ pos rate)

IsProduct-factors : (x y seconds : ℤ) (rate : ℕ) → FitsSigned w64 seconds → Fits w32 rate → x ≡ to_z w64 (of_z w64 seconds) → y ≡ pos rate → IsProduct x y seconds rate
IsProduct-factors x y seconds rate f g is other =
    let seconds_is : x ≡ seconds = is ∙ to_z-of_z w64 seconds f in
    let wide : FitsSigned w128 seconds = record { sfits = omega (arith, f.sfits) } in
    let rate_wide : FitsSigned w128 (pos rate) = record { sfits = omega (arith, g.fits) } in
    let most : unsigned_abs seconds ≤ 2 ^ 63 = omega (arith, ints, f.sfits) in
    record {
      first = ap (λ z. to_z w128 (of_z w128 z)) seconds_is ∙ to_z-of_z w128 seconds wide;
      second = ap (λ z. to_z w128 (of_z w128 z)) other ∙ to_z-of_z w128 (pos rate) rate_wide;
      fits = fits_signed_mul w128 seconds (pos rate) (2 ^ 63) (2 ^ 32) most (omega (arith, g.fits)) (omega arith);
    }

pub overflow_mul-result : goal.overflow_mul-result
overflow_mul-result c =
    let p = IsProduct-factors c.from.result c.from-2.result c.args.seconds c.args.rate c.ranges.seconds c.ranges.rate c.from.ensures c.from-2.ensures in
    rw (p.first, p.second) p.fits

pub returns : goal.returns
returns c =
    let p = IsProduct-factors c.from.result c.from-2.result c.args.seconds c.args.rate c.ranges.seconds c.ranges.rate c.from.ensures c.from-2.ensures in
    rw (p.first, p.second) (to_z-of_z w128 (c.args.seconds *ℤ pos c.args.rate) p.fits)
