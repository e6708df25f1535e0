use Rattle.std.specs.List.{All}
use Rattle.std.proofs.Common.{◌≡◌, ◌-◌, ◌≤◌}
use Rattle.dev_traits.specs.Told.{WhereTold}
use Rattle.checkpoint_journal.specs.Runs.{Looks}
use Rattle.checkpoint_journal.specs.Finding.{HasPlace}
use Rattle.checkpoint_journal.specs.Listed.{IsPlaced}
use Rattle.checkpoint_journal.proofs.ListedLemmas.{IsListed}
use Rattle.checkpoint_journal.proofs.listed.list_kept.Given as goal

abbrev pub invariant-loop-here : goal.invariant-loop-here
invariant-loop-here g l = record {
  looks : Looks g.D.Disk.seen g.D.Disk.moment g.D.Disk.may_leave l.initial.disk l.disk;
  stays : g.D.Disk.stays l.initial.disk l.disk;
  faults : g.D.Disk.faults l.disk ≡ g.D.Disk.faults l.initial.disk;
  list : WhereTold (g.D.Disk.seen l.initial.disk) (λ image. IsListed l.id l.plan image l.last l.here l.kept.items);
  placed : All (IsPlaced l.plan) l.kept.items;
  place : HasPlace l.plan l.here;
  within : l.here.gate ≤ l.last.gate;
}

abbrev pub decreases-loop-here : goal.decreases-loop-here
decreases-loop-here g l = l.last.kept - l.here.kept
