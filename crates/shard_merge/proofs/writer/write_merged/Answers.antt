use Rattle.std.specs.Prelude.{IfErr}
use Rattle.std.proofs.Common.{Result, List, ℕ, refl, sym, subst}
use Rattle.dev_traits.specs.Told.{WhereTold}
use Rattle.journal_image.specs.Image.{KeptEpoch}
use Rattle.vis_writer.specs.Writes.{Appended}
use Rattle.shard_merge.specs.declared.fault.OutputFault.{OutputFault}
use Rattle.shard_merge.specs.Merged.{merged}
use Rattle.shard_merge.specs.Reading.{AreReadFrom}
use Rattle.shard_merge.specs.Output.{IsUnwritten, CountsOutputReads, CountsOutputWrites}
use Rattle.shard_merge.proofs.WriterSizes.{head-IsHeadOf}
use Rattle.shard_merge.proofs.WriterFile.{file-same, file-reads, file-writes, file-unwritten, file-written, file-refused}
use Rattle.shard_merge.proofs.writer.write_merged.Goals as goal

pub write_file-requires-clause-head : goal.write_file-requires-clause-head
write_file-requires-clause-head g c = head-IsHeadOf c.args.plan.now c.args.epochs.now c.in-Ok.rooms.head c.requires.cut c.in-Ok.ensures.head

pub returns-clause-same : goal.returns-clause-same
returns-clause-same g c = file-same _ _ _ _ _ c.args.shelf.now c.write_file.new.shelf _ _ _ _ c.write_file.result c.write_file.ensures

pub returns-clause-written : goal.returns-clause-written
returns-clause-written g c =
    subst (λ (r : Result (Unit {0}) OutputFault). WhereTold (g.F.Shelf.told c.args.shelf.now)
    (λ files. (id : List ℕ) (keeps : List (List KeptEpoch)) → AreReadFrom files id c.args.epochs.now c.args.shards.now keeps
    → Appended (g.S.Sink.told c.args.out.now) (merged c.args.plan.now keeps) (g.S.Sink.told c.write_file.new.out) r))
    (sym c.answer.ensures)
    (file-written _ _ _ _ _ c.args.shelf.now c.write_file.new.shelf _ _ _ _ c.write_file.result c.write_file.ensures c.args.plan.now c.requires.cut c.in-Ok.ensures.head)

pub returns-clause-unwritten : goal.returns-clause-unwritten
returns-clause-unwritten g c =
    subst (λ (r : Result (Unit {0}) OutputFault). IfErr r (IsUnwritten (g.S.Sink.told c.args.out.now) (g.S.Sink.told c.write_file.new.out))) (sym c.answer.ensures)
    (file-unwritten _ _ _ _ _ c.args.shelf.now c.write_file.new.shelf _ _ _ _ c.write_file.result c.write_file.ensures)

pub returns-clause-reads : goal.returns-clause-reads
returns-clause-reads g c =
    subst (λ (r : Result (Unit {0}) OutputFault). CountsOutputReads (g.F.Shelf.faults c.args.shelf.now) (g.F.Shelf.faults c.write_file.new.shelf) r) (sym c.answer.ensures)
    (file-reads _ _ _ _ _ c.args.shelf.now c.write_file.new.shelf _ _ _ _ c.write_file.result c.write_file.ensures)

pub returns-clause-writes : goal.returns-clause-writes
returns-clause-writes g c =
    subst (λ (r : Result (Unit {0}) OutputFault). CountsOutputWrites (g.S.Sink.faults c.args.out.now) (g.S.Sink.faults c.write_file.new.out) r) (sym c.answer.ensures)
    (file-writes _ _ _ _ _ c.args.shelf.now c.write_file.new.shelf _ _ _ _ c.write_file.result c.write_file.ensures)

pub returns-in_default-clause-written : goal.returns-in_default-clause-written
returns-in_default-clause-written g c =
    file-refused c.args.plan.now c.args.epochs.now c.args.shards.now (g.F.Shelf.told c.args.shelf.now) (g.S.Sink.told c.args.out.now) _ refl
