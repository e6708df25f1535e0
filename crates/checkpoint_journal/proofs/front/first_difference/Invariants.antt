use Rattle.std.proofs.Common.{length, ◌-◌, ◌≡◌, ◌≤◌}
use Rattle.dev_traits.specs.Told.{WhereTold}
use Rattle.checkpoint_journal.specs.Runs.{Looks}
use Rattle.checkpoint_journal.specs.Front.{OursTo}
use Rattle.checkpoint_journal.proofs.front.first_difference.Given as goal

abbrev pub invariant-loop-done : goal.invariant-loop-done
invariant-loop-done g l = record {
  looks : Looks g.D.Disk.seen g.D.Disk.moment g.D.Disk.may_leave l.initial.disk l.disk;
  stays : g.D.Disk.stays l.initial.disk l.disk;
  faults : g.D.Disk.faults l.disk ≡ g.D.Disk.faults l.initial.disk;
  within : l.done ≤ length l.id;
  same : WhereTold (g.D.Disk.seen l.initial.disk) (λ image. OursTo l.id image l.done);
}

abbrev pub decreases-loop-done : goal.decreases-loop-done
decreases-loop-done g l = length l.id - l.done
