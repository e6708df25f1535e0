use Rattle.std.proofs.Common.{◌≡◌, drop, not, is_some}
use Rattle.std.specs.List.{position, position_from}
use Rattle.named_list.specs.Named.{named, names}
use Rattle.job_join.proofs.takes.unknown_take.Given as goal

abbrev pub invariant-loop-i : goal.invariant-loop-i
invariant-loop-i l =
    position_from (λ name. not (is_some (named l.scans name))) l.i (drop l.i (names l.takes)) ≡ position (λ name. not (is_some (named l.scans name))) (names l.takes)
