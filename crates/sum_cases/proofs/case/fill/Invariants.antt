-- The bytes so far.
use Rattle.std.proofs.Common.{◌≡◌, length}
use Rattle.byte_sums.specs.Sums.{AreAtMost}
use Rattle.sum_cases.proofs.case.fill.Given as goal

abbrev pub invariant-loop-i : goal.invariant-loop-i
invariant-loop-i l = record {
  len : length l.row ≡ length l.initial.row;
  small : AreAtMost l.greatest l.row;
}
