use Rattle.std.proofs.Common.{◌≡◌, ℕ, List, take, bytes_eq}
use Rattle.std.specs.List.{position}
use Rattle.named_list.specs.Named.{named, names}
use Rattle.job_join.proofs.plans.channel_numbers.Given as goal

abbrev pub invariant-loop-i : goal.invariant-loop-i
invariant-loop-i l = (q : List ℕ) → named l.numbers q ≡ position (λ other. bytes_eq other q) (take l.i (names l.channels))
