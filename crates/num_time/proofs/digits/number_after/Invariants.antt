use Rattle.std.proofs.Common.{◌≡◌, ◌-◌, ◌^◌, ◌≤◌, min, true, drop}
use Rattle.std.specs.Str.Parse.{digits_value_after}
use Rattle.num_time.specs.Numerals.{are_digits}
use Rattle.num_time.proofs.digits.number_after.Given as goal

abbrev pub invariant-loop-c : goal.invariant-loop-c
invariant-loop-c l = record {
  fits : l.number ≤ 2 ^ 64 - 1;
  digits : are_digits (drop l.c-index l.digits) ≡ true;
  same : min (digits_value_after 10 l.number (drop l.c-index l.digits)) (2 ^ 64 - 1) ≡ min (digits_value_after 10 l.so_far l.digits) (2 ^ 64 - 1);
}
