use Rattle.std.proofs.Common.{◌≡◌, ℕ, List, map, take}
use Rattle.named_list.specs.Named.{names}
use Rattle.job_join.proofs.plans.channel_names.Given as goal

abbrev pub invariant-loop-i : goal.invariant-loop-i
invariant-loop-i l = l.all.items ≡ map (λ (name : List ℕ). name) (take l.i (names l.channels))
