use Rattle.std.proofs.Common.{◌≡◌, map, take, drop, All}
use Rattle.read_steps.specs.Steps.{in_turn}
use Rattle.vex_schedule.specs.Schedule.{pass_of, passes_of}
use Rattle.scan_list.specs.Sound.{IsPass}
use Rattle.vex_schedule.proofs.scans.passes_of.Given as goal

abbrev pub invariant-loop-stay : goal.invariant-loop-stay
invariant-loop-stay l = record {
  so_far : in_turn (λ before stay. pass_of l.file l.mode stay) l.passes.items (drop l.stay-index l.stays) ≡ passes_of l.file l.mode l.stays;
  sound : All IsPass l.passes.items;
  keys : map (λ pass. pass.key) l.passes.items ≡ map (λ stay. stay.key) (take l.stay-index l.stays);
}
