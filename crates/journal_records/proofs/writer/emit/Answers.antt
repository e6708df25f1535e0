use Rattle.std.specs.Prelude.{option_map}
use Rattle.plan_places.specs.Places.{place_at}
use Rattle.std.proofs.Common.{◌≡◌, ◌∙◌, ◌≤◌, None, Result, Err, length, rules, sym, ap, subst, arith}
use Rattle.dev_traits.specs.Told.{WhereTold}
use Rattle.job_plan.specs.declared.plan.Plan.{Plan}
use Rattle.job_plan.specs.Ranges.{IsPlan}
use Rattle.job_plan.specs.Output.{head_of}
use Rattle.job_epochs.specs.Sizes.{sizes_of}
use Rattle.checkpoint_journal.specs.Standing.{JournalState}
use Rattle.journal_records.specs.declared.fault.EmitFault.{EmitFault}
use Rattle.journal_records.specs.declared.fault.EmitFault.TheVariants.{Memory}
use Rattle.vis_writer.specs.Cells.{widest}
use Rattle.journal_records.specs.Counted.{CountsJournal, CountsWrites}
use Rattle.journal_records.specs.Kept.{Grows, WritesKept}
use Rattle.journal_records.specs.Store.{store}
use Rattle.journal_records.proofs.GrowsLemmas.{grows-refused}
use Rattle.journal_records.proofs.StoreLemmas.{stands-again, first-place, cells-room, cells-rests}
use Rattle.journal_records.proofs.FileRecords.{kept-refused, file-grows, file-journal, file-writes, file-written}
use Rattle.journal_records.proofs.writer.emit.Goals as goal

pub write_file-written-requires-clause-cut : goal.write_file-written-requires-clause-cut
write_file-written-requires-clause-cut g c = record {
  plan_is = subst IsPlan (sym c.plan-plan.ensures.same) c.plan-plan.ensures.ranges;
  same = c.args.ready.now.cut ∙ ap sizes_of (sym c.plan-plan.ensures.same);
  few_scans = subst (λ (p : Plan). length p.scans ≤ 8388608) (sym c.plan-plan.ensures.same) c.args.ready.now.few;
}

pub write_file-written-requires-clause-head : goal.write_file-written-requires-clause-head
write_file-written-requires-clause-head g c = c.in_ok-head.ensures ∙ ap head_of (sym c.plan-plan.ensures.same)

pub write_file-written-requires-clause-stands : goal.write_file-written-requires-clause-stands
write_file-written-requires-clause-stands g c = (
  c.requires.stands.0,
  stands-again c.requires.stands.0 c.args.ready.now.epochs c.args.journal.now c.rewind.new.self _ _ c.rewind.ensures.stands c.requires.stands.1,
)

pub returns-clause-written : goal.returns-clause-written
returns-clause-written g c = λ id stands.
    let first : c.rewind.new.self.here.next ≡ c.args.journal.now.first.next = ap (λ (j : JournalState). j.here.next) c.rewind.ensures.first in
    let covers : c.rewind.new.self.end.next ≡ None = ap (λ (j : JournalState). j.end.next) c.rewind.ensures.first ∙ c.requires.covers in
    let file = file-written _ _ _ _ c.plan-plan.result.now c.args.ready.now.epochs _ _ (store c.rewind.new.self c.args.disk.now) _ _ _ _ _ c.write_file-written.result
    c.write_file-written.ensures c.kept-kept.result (c.in_ok-head.ensures ∙ ap head_of (sym c.plan-plan.ensures.same))
    (c.args.ready.now.cut ∙ ap sizes_of (sym c.plan-plan.ensures.same)) covers
    (ap (option_map place_at) first ∙ first-place id c.args.ready.now.epochs c.args.journal.now _ _ stands)
    id (stands-again id c.args.ready.now.epochs c.args.journal.now c.rewind.new.self _ _ c.rewind.ensures.stands stands) in
    subst (λ (p : Plan). WhereTold (g.D.Disk.seen c.args.disk.now) (λ image. WritesKept id p image (g.S.Sink.told c.args.out.now) (g.S.Sink.told c.write_file-written.new.out) c.answer.result))
    c.plan-plan.ensures.same
    (subst (λ (r : Result (Unit {0}) EmitFault). WhereTold (g.D.Disk.seen c.args.disk.now) (λ image. WritesKept id c.plan-plan.result.now image (g.S.Sink.told c.args.out.now) (g.S.Sink.told c.write_file-written.new.out) r))
    (sym c.answer.ensures) file)

pub returns-clause-grows : goal.returns-clause-grows
returns-clause-grows g c =
    subst (λ (r : Result (Unit {0}) EmitFault). Grows (g.S.Sink.told c.args.out.now) (g.S.Sink.told c.write_file-written.new.out) r) (sym c.answer.ensures)
    (file-grows _ _ _ _ c.plan-plan.result.now c.args.ready.now.epochs _ _ (store c.rewind.new.self c.args.disk.now) _ _ _ _ _ c.write_file-written.result
    c.write_file-written.ensures c.kept-kept.result)

pub returns-clause-stands : goal.returns-clause-stands
returns-clause-stands g c = λ id stands.
    (cells-rests _ _ _ _ _ _ c.write_file-written.ensures).stands id
    (stands-again id c.args.ready.now.epochs c.args.journal.now c.rewind.new.self _ _ c.rewind.ensures.stands stands)

pub returns-clause-looks : goal.returns-clause-looks
returns-clause-looks g c = (cells-rests _ _ _ _ _ _ c.write_file-written.ensures).looks

pub returns-in_err-cells-clause-written : goal.returns-in_err-cells-clause-written
returns-in_err-cells-clause-written g c = λ id stands.
    let is : c.from_residual-in_err-cells.result ≡ Err Memory = search rules in
    kept-refused id c.args.ready.now.plan c.args.ready.now.epochs c.args.journal.now (g.D.Disk.seen c.args.disk.now) (g.S.Sink.told c.args.out.now)
    c.from_residual-in_err-cells.result c.args.ready.now.cut is stands.image

pub returns-in_err-body-clause-written : goal.returns-in_err-body-clause-written
returns-in_err-body-clause-written g c = λ id stands.
    let is : c.from_residual-in_err-body.result ≡ Err Memory = search rules in
    kept-refused id c.args.ready.now.plan c.args.ready.now.epochs c.args.journal.now (g.D.Disk.seen c.args.disk.now) (g.S.Sink.told c.args.out.now)
    c.from_residual-in_err-body.result c.args.ready.now.cut is stands.image

pub returns-in_err-head-clause-grows : goal.returns-in_err-head-clause-grows
returns-in_err-head-clause-grows g c =
    let is : c.from_residual.result ≡ Err Memory = search rules in grows-refused (g.S.Sink.told c.args.out.now) _ is

pub returns-in_err-cells-clause-grows : goal.returns-in_err-cells-clause-grows
returns-in_err-cells-clause-grows g c =
    let is : c.from_residual-in_err-cells.result ≡ Err Memory = search rules in grows-refused (g.S.Sink.told c.args.out.now) _ is

pub returns-in_err-body-clause-grows : goal.returns-in_err-body-clause-grows
returns-in_err-body-clause-grows g c =
    let is : c.from_residual-in_err-body.result ≡ Err Memory = search rules in grows-refused (g.S.Sink.told c.args.out.now) _ is

pub returns-in_err-head-clause-written : goal.returns-in_err-head-clause-written
returns-in_err-head-clause-written g c = λ id stands.
    let is : c.from_residual.result ≡ Err Memory = search rules in
    kept-refused id c.args.ready.now.plan c.args.ready.now.epochs c.args.journal.now (g.D.Disk.seen c.args.disk.now) (g.S.Sink.told c.args.out.now)
    c.from_residual.result c.args.ready.now.cut is stands.image

pub write_file-written-requires-clause-body : goal.write_file-written-requires-clause-body
write_file-written-requires-clause-body g c = λ e epoch.
    let room : widest c.in_ok-head.head ≤ length c.deref_mut-2.result.now = search rules in
    omega (arith, room, cells-room c.args.ready.now.plan c.args.ready.now.epochs c.in_ok-head.head c.args.ready.now.cut c.in_ok-head.ensures e epoch)

pub returns-clause-journal : goal.returns-clause-journal
returns-clause-journal g c =
    subst (λ (r : Result (Unit {0}) EmitFault). CountsJournal (g.D.Disk.faults c.args.disk.now) (g.D.Disk.faults c.write_file-written.new.disk) r) (sym c.answer.ensures)
    (file-journal _ _ _ _ c.plan-plan.result.now c.args.ready.now.epochs _ _ (store c.rewind.new.self c.args.disk.now) (store c.write_file-written.new.journal c.write_file-written.new.disk)
    _ _ _ _ c.write_file-written.result c.write_file-written.ensures c.kept-kept.result)

pub returns-clause-writes : goal.returns-clause-writes
returns-clause-writes g c =
    subst (λ (r : Result (Unit {0}) EmitFault). CountsWrites (g.S.Sink.faults c.args.out.now) (g.S.Sink.faults c.write_file-written.new.out) r) (sym c.answer.ensures)
    (file-writes _ _ _ _ c.plan-plan.result.now c.args.ready.now.epochs _ _ (store c.rewind.new.self c.args.disk.now) (store c.write_file-written.new.journal c.write_file-written.new.disk)
    _ _ _ _ c.write_file-written.result c.write_file-written.ensures c.kept-kept.result)
