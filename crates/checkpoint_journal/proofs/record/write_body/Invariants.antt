use Rattle.std.specs.Prelude.{option_map, is_some}
use Rattle.std.proofs.Common.{◌≡◌, ℕ, ◌≤◌, ◌-◌, take}
use Rattle.dev_traits.specs.Moments.{Runs}
use Rattle.checkpoint_journal.specs.Cells.{body_text}
use Rattle.checkpoint_journal.specs.Runs.{KeepsFront, put_over}
use Rattle.checkpoint_journal.proofs.record.write_body.Given as goal

abbrev pub invariant-loop-done : goal.invariant-loop-done
invariant-loop-done g l = record {
  within : l.done ≤ l.cells;
  written : g.D.Disk.seen l.disk ≡ option_map (put_over l.at (body_text (take l.done l.sums.cells))) (g.D.Disk.seen l.initial.disk);
  tells : is_some (g.D.Disk.seen l.disk) ≡ is_some (g.D.Disk.seen l.initial.disk);
  runs : (n : ℕ) → n ≤ l.at → Runs g.D.Disk.moment g.D.Disk.may_leave (KeepsFront n) l.initial.disk l.disk;
  faults : g.D.Disk.faults l.disk ≡ g.D.Disk.faults l.initial.disk;
}

abbrev pub decreases-loop-done : goal.decreases-loop-done
decreases-loop-done g l = l.cells - l.done
