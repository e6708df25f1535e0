use Rattle.std.proofs.Common.{◌≡◌, map, take}
use Rattle.named_list.specs.Named.{names}
use Rattle.job_join.specs.Joined.{product_plan}
use Rattle.job_join.proofs.lists.product_plans.Given as goal

abbrev pub invariant-loop-i : goal.invariant-loop-i
invariant-loop-i l = l.all.items ≡ map (product_plan (names l.j.channels)) (take l.i l.pairs)
