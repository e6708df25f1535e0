use Rattle.std.specs.Prelude.{flat_map}
use Rattle.std.proofs.Common.{◌≡◌, map, take}
use Rattle.job_plan.specs.declared.plan.ProductPlan.{ProductPlan}
use Rattle.run_sums.specs.Pairs.{placed_pair}
use Rattle.run_sums.proofs.pairs.pairs_of.Given as goal

abbrev pub invariant-loop-p : goal.invariant-loop-p
invariant-loop-p l = l.pairs.items ≡ flat_map (λ (p : ProductPlan). map (placed_pair l.scan p) l.scan.baselines) (take l.p-index l.p-items)
