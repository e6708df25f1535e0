use Rattle.std.proofs.Common.{◌≡◌, map, take}
use Rattle.read_steps.specs.Steps.{seen}
use Rattle.vex_schedule.specs.Schedule.{setup_in}
use Rattle.vex_schedule.specs.Setups.{part_of}
use Rattle.vex_schedule.proofs.setup.setups_of.Given as goal

abbrev pub invariant-loop-i : goal.invariant-loop-i
invariant-loop-i l = map (seen part_of) l.setups.items ≡ map (λ def. setup_in def.1) (take l.i l.block.defs)
