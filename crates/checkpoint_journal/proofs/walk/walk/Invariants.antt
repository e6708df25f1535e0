use Rattle.std.proofs.Common.{◌≡◌, ◌+◌, ◌-◌, ◌≤◌, length, IfSome}
use Rattle.dev_traits.specs.Told.{WhereTold}
use Rattle.plan_places.specs.Places.{place_at, IsPlace}
use Rattle.checkpoint_journal.specs.Runs.{Looks}
use Rattle.checkpoint_journal.specs.Finding.{IsAt}
use Rattle.checkpoint_journal.proofs.walk.walk.Given as goal

abbrev pub invariant-loop-here : goal.invariant-loop-here
invariant-loop-here g l = record {
  looks : Looks g.D.Disk.seen g.D.Disk.moment g.D.Disk.may_leave l.initial.disk l.disk;
  stays : g.D.Disk.stays l.initial.disk l.disk;
  faults : g.D.Disk.faults l.disk ≡ g.D.Disk.faults l.initial.disk;
  old : l.here.old ≡ l.old;
  at : WhereTold (g.D.Disk.seen l.initial.disk) (λ image. IsAt l.id l.plan image l.here);
  place : IfSome l.here.next (λ p. IsPlace l.plan (place_at p));
  many : l.here.kept ≤ l.here.gate;
  behind : 1 + length l.id ≤ l.here.gate;
}

abbrev pub decreases-loop-here : goal.decreases-loop-here
decreases-loop-here g l = l.len - l.here.gate
