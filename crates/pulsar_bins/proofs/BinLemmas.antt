-- A bin is below the number of bins.
use Rattle.std.proofs.Common.{◌≡◌, ℕ, ◌*◌, ◌^◌, ◌<◌, ◌≤◌, ℤ, ap, arith}
use Rattle.std.specs.Prelude.{unsigned_abs}
use Rattle.std.proofs.Math.Nat.{div-lt_iff_lt-mul, mul-lt-mul_of_pos_left}
use Rattle.delay_line.proofs.Floors.{rest_below}
use Rattle.pulsar_bins.specs.Bin.{past_turn, bin_of}

pub past_turn-below : (phase : ℤ) → past_turn phase < 2 ^ 32
past_turn-below phase =
    let rest = rest_below phase (2 ^ 32) (omega arith) in
    let is : past_turn phase ≡ rest.0 = ap unsigned_abs rest.1 in
    omega (arith, is, rest.2)

pub bin_of-below : (count : ℕ) (phase : ℤ) → 1 ≤ count → bin_of count phase < count
unfolding bin_of
bin_of-below count phase some =
    let turn : 0 < 2 ^ 32 = omega arith in
    let lt : count * past_turn phase < count * 2 ^ 32 = mul-lt-mul_of_pos_left (past_turn-below phase) some in
    (div-lt_iff_lt-mul turn).1 lt
