use Rattle.std.proofs.Common.{◌≡◌, map, take, drop, All}
use Rattle.named_list.specs.Named.{names}
use Rattle.read_steps.specs.Steps.{in_turn}
use Rattle.vex_schedule.specs.Schedule.{scan_of, scans_of}
use Rattle.scan_list.specs.Sound.{IsScan}
use Rattle.vex_schedule.proofs.scans.scans_of.Given as goal

abbrev pub invariant-loop-i : goal.invariant-loop-i
invariant-loop-i l = record {
  so_far : in_turn (λ before scan. scan_of l.file scan.0 scan.1) l.scans.items (drop l.i l.items) ≡ scans_of l.file l.items;
  sound : All IsScan l.scans.items;
  names : map (λ scan. scan.name) l.scans.items ≡ names (take l.i l.items);
}
