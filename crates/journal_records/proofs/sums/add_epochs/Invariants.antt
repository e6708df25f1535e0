use Rattle.std.proofs.Common.{◌≡◌, ◌-◌, ℕ, List}
use Rattle.piece_plan.specs.declared.job.ScanSize.{ScanSize}
use Rattle.journal_image.specs.Image.{KeptEpoch}
use Rattle.checkpoint_journal.specs.Standing.{StandsOn}
use Rattle.journal_records.specs.Places.{IsIntegration, place_from}
use Rattle.journal_records.specs.Reading.{IsAdded}
use Rattle.journal_records.specs.Store.{store, Tells, Rests}
use Rattle.journal_records.proofs.sums.add_epochs.Given as goal

abbrev pub invariant-loop-at : goal.invariant-loop-at
invariant-loop-at g l = record {
  stands : StandsOn l.epochs l.journal (g.D.Disk.seen l.disk) (g.D.Disk.may_leave l.disk (g.D.Disk.moment l.disk));
  rests : Rests g.D.Disk.seen g.D.Disk.moment g.D.Disk.may_leave l.epochs (store l.initial.journal l.initial.disk) (store l.journal l.disk);
  count : g.D.Disk.faults l.disk ≡ g.D.Disk.faults l.initial.disk;
  added : (number m : ℕ) (size : ScanSize) → IsIntegration l.epochs number size m l.from l.to → (id : List ℕ) (kept : List KeptEpoch)
      → Tells g.D.Disk.seen g.D.Disk.moment g.D.Disk.may_leave l.epochs id kept (place_from l.epochs number size m l.from) (store l.initial.journal l.initial.disk)
      → IsAdded l.epochs number size m l.at kept l.initial.sums l.sums l.journal;
}

abbrev pub decreases-loop-at : goal.decreases-loop-at
decreases-loop-at g l = l.journal.end.kept - l.journal.here.kept
