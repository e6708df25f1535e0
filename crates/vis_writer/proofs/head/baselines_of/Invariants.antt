use Rattle.std.proofs.Common.{◌≡◌, map, take}
use Rattle.vis_records.specs.Heads.{baseline_of}
use Rattle.vis_writer.specs.PlanCells.{pair_of}
use Rattle.vis_writer.proofs.head.baselines_of.Given as goal

abbrev pub invariant-loop-baseline : goal.invariant-loop-baseline
invariant-loop-baseline l = map baseline_of l.made.items ≡ map pair_of (take l.baseline-index l.baselines)
