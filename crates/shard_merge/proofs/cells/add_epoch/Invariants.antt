use Rattle.std.proofs.Common.{◌-◌, ◌≡◌, ◌≤◌, length}
use Rattle.dev_traits.specs.Told.{WhereTold}
use Rattle.job_epochs.specs.Added.{add_cells}
use Rattle.checkpoint_journal.specs.Cells.{cells_at}
use Rattle.shard_merge.proofs.cells.add_epoch.Given as goal

abbrev pub invariant-loop-done : goal.invariant-loop-done
invariant-loop-done g l = record {
  same : g.D.Disk.seen l.disk ≡ g.D.Disk.seen l.initial.disk;
  stays : g.D.Disk.stays l.initial.disk l.disk;
  faults : g.D.Disk.faults l.disk ≡ g.D.Disk.faults l.initial.disk;
  within : l.done ≤ l.count;
  size : length l.sums ≡ length l.initial.sums;
  added : WhereTold (g.D.Disk.seen l.initial.disk) (λ image. l.sums ≡ add_cells l.initial.sums (cells_at image l.kept.at l.done));
}

abbrev pub decreases-loop-done : goal.decreases-loop-done
decreases-loop-done g l = l.count - l.done
