-- The sums so far.
use Rattle.std.proofs.Common.{◌≡◌, ◌≤◌, ◌+◌, ◌*◌, length}
use Rattle.std.specs.Simd.Lanes.{Each1, sum_l}
use Rattle.byte_sums.specs.Fields.{lower_sum, upper_sum}
use Rattle.byte_sums.proofs.fields.field_sums.Given as goal

abbrev pub invariant-loop-i : goal.invariant-loop-i
invariant-loop-i l = record {
  first_lower : sum_l l.first.lower ≡ lower_sum l.a l.b l.lag (96 * l.i);
  first_upper : sum_l l.first.upper ≡ upper_sum l.a l.b l.lag (96 * l.i);
  second_lower : sum_l l.second.lower ≡ lower_sum l.a l.b (l.lag + 1) (96 * l.i);
  second_upper : sum_l l.second.upper ≡ upper_sum l.a l.b (l.lag + 1) (96 * l.i);
  first_lower_len : length l.first.lower ≡ 16;
  first_upper_len : length l.first.upper ≡ 16;
  second_lower_len : length l.second.lower ≡ 16;
  second_upper_len : length l.second.upper ≡ 16;
  first_lower_small : Each1 (λ n. n ≤ 75 * l.i) l.first.lower;
  first_upper_small : Each1 (λ n. n ≤ 75 * l.i) l.first.upper;
  second_lower_small : Each1 (λ n. n ≤ 75 * l.i) l.second.lower;
  second_upper_small : Each1 (λ n. n ≤ 75 * l.i) l.second.upper;
}
