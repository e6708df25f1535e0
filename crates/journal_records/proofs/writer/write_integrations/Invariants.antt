use Rattle.std.proofs.Common.{Ok}
use Rattle.std.specs.List.{flat_map, range_with_len}
use Rattle.job_epochs.specs.Sizes.{size_of}
use Rattle.checkpoint_journal.specs.Standing.{StandsOn}
use Rattle.vis_writer.specs.Texts.{integration_at}
use Rattle.journal_records.specs.Places.{place_of_integration}
use Rattle.journal_records.specs.Store.{store, Reaches, WritesCells}
use Rattle.journal_records.proofs.writer.write_integrations.Given as goal

abbrev pub invariant-loop-m : goal.invariant-loop-m
invariant-loop-m g l = record {
  stands : StandsOn l.epochs l.journal (g.D.Disk.seen l.disk) (g.D.Disk.may_leave l.disk (g.D.Disk.moment l.disk));
  reaches : Reaches g.D.Disk.seen g.D.Disk.moment g.D.Disk.may_leave l.epochs
      (place_of_integration l.epochs l.number (size_of l.plan l.scan) 0) (place_of_integration l.epochs l.number (size_of l.plan l.scan) l.m)
      (store l.initial.journal l.initial.disk) (store l.journal l.disk);
  written : WritesCells {T = Unit {0}} g.D.Disk.seen g.D.Disk.moment g.D.Disk.may_leave g.D.Disk.faults l.plan l.epochs
      (place_of_integration l.epochs l.number (size_of l.plan l.scan) 0)
      (λ of. flat_map (λ m. integration_at l.head l.number m (of l.number m)) (range_with_len 0 l.m))
      (store l.initial.journal l.initial.disk) (store l.journal l.disk)
      (g.S.Sink.told l.initial.out) (g.S.Sink.told l.out) (g.S.Sink.faults l.initial.out) (g.S.Sink.faults l.out) (Ok tt);
}
