use Rattle.std.specs.Prelude.{option_copied}
use Rattle.std.proofs.Common.{◌≡◌, inl, Result, Ok, Err, rules, refl, sym, subst, Option}
use Rattle.dev_traits.specs.Told.{WhereTold}
use Rattle.corr_model.specs.Files.{Files}
use Rattle.job_plan.specs.Ranges.{IsPlan}
use Rattle.checkpoint_journal.proofs.RunLemmas.{looks_none}
use Rattle.vis_writer.proofs.WritesLemmas.{where_then, where_always}
use Rattle.run_words.specs.declared.order.Order.TheVariants.{Run}
use Rattle.run_notes.specs.declared.refusal.Refusal.{Refusal}
use Rattle.vlbi_core.specs.Steps.{OutcomeFrom, IsFullFor, CountsJournalOr, Does}
use Rattle.vlbi_core.proofs.CorrelationLemmas.{Resumed, Brought, run_call, run-summer, run-makes, does-resumed, does-brought, files-counts, resumed-counts, emitted-counts}
use Rattle.vlbi_core.proofs.KeepLemmas.{ranged-at}
use Rattle.vlbi_core.proofs.correlation.correlate_job.Goals as goal

pub returns-in_err-kept-clause-does : goal.returns-in_err-kept-clause-does
returns-in_err-kept-clause-does g c =
    let ready = c.in_ok-ready.ready in
    let failed : c.from_residual-in_err-kept.result ≡ Err c.in_err-kept.field-0.0 = search rules in
    subst (λ (q : Result (Unit {0}) Refusal). WhereTold (g.F.Shelf.told c.args.shelf.now)
    (λ files. Does (Ok (Run c.args.job.now (option_copied c.args.vex) c.args.epoch c.args.workers c.args.piece)) files g.D.Disk.seen g.D.Disk.moment g.D.Disk.may_leave c.args.journal.now c.resume.new.disk
    (g.S.Sink.told c.args.out.now) (g.S.Sink.told c.args.out.now) q)) (sym failed)
    (does-resumed g.D.Disk.seen g.D.Disk.moment g.D.Disk.may_leave (g.F.Shelf.told c.args.shelf.now) (Run c.args.job.now (option_copied c.args.vex) c.args.epoch c.args.workers c.args.piece)
    (run_call c.args.job.now (option_copied c.args.vex) c.args.epoch ready.plan) ready.identity ready.epochs ready.epoch c.args.journal.now c.resume.new.disk (g.S.Sink.told c.args.out.now) c.in_err-kept.field-0.0
    (run-summer c.args.job.now (option_copied c.args.vex) c.args.epoch ready.plan (g.F.Shelf.told c.args.shelf.now) c.args.workers c.args.piece ready.identity ready.epochs ready.epoch
    c.in_ok-ready.ensures.plan c.in_ok-ready.ensures.identity ready.cut c.in_ok-ready.ensures.epoch)
    (subst (λ (t : Option Files). Resumed g.D.Disk.seen g.D.Disk.moment g.D.Disk.may_leave t ready.plan ready.identity ready.epochs ready.epoch c.args.journal.now c.resume.new.disk c.in_err-kept.field-0.0)
    c.in_ok-ready.ensures.same
    (record { changes = c.in_err-kept.ensures.changes; spares = c.in_err-kept.ensures.spares; refused = c.in_err-kept.ensures.refused; named = c.in_err-kept.ensures.named })))

pub returns-clause-does : goal.returns-clause-does
returns-clause-does g c =
    let ready = c.in_ok-ready.ready in
    let ranges : IsPlan c.in_ok-ready.ready.plan = search rules in
    does-brought g.D.Disk.seen g.D.Disk.moment g.D.Disk.may_leave (g.F.Shelf.told c.args.shelf.now) (Run c.args.job.now (option_copied c.args.vex) c.args.epoch c.args.workers c.args.piece)
    (run_call c.args.job.now (option_copied c.args.vex) c.args.epoch ready.plan) ready.identity ready.epochs ready.epoch c.in_ok-kept.kept
    c.args.journal.now c.resume.new.disk c.emit.new.disk (g.S.Sink.told c.args.out.now) (g.S.Sink.told c.emit.new.out) c.emit.result
    (run-summer c.args.job.now (option_copied c.args.vex) c.args.epoch ready.plan (g.F.Shelf.told c.args.shelf.now) c.args.workers c.args.piece ready.identity ready.epochs ready.epoch
    c.in_ok-ready.ensures.plan c.in_ok-ready.ensures.identity ready.cut c.in_ok-ready.ensures.epoch)
    (subst (λ (t : Option Files). Brought g.D.Disk.seen g.D.Disk.moment g.D.Disk.may_leave t ready.plan ready.identity ready.epochs ready.epoch c.in_ok-kept.kept
    c.args.journal.now c.resume.new.disk c.emit.new.disk (g.S.Sink.told c.args.out.now) (g.S.Sink.told c.emit.new.out) c.emit.result)
    c.in_ok-ready.ensures.same
    (record {
      changes = c.in_ok-kept.ensures.changes;
      stands = c.in_ok-kept.ensures.stands;
      covers = c.in_ok-kept.ensures.covers;
      looks = c.emit.ensures.looks;
      refused = c.emit.ensures.refused;
    }))
    (run-makes c.args.job.now (option_copied c.args.vex) c.args.epoch ready.plan c.sums_make_the_output.ensures (g.F.Shelf.told c.args.shelf.now) ranges ready.identity c.in_ok-ready.ensures.identity c.in_ok-kept.kept
    (g.D.Disk.seen c.args.journal.now) (g.D.Disk.seen c.resume.new.disk) (g.S.Sink.told c.args.out.now) (g.S.Sink.told c.emit.new.out) c.emit.result
    (c.emit.ensures.written ready.identity c.in_ok-kept.ensures.stands) c.emit.ensures.grows)

pub returns-in_err-ready-clause-journal : goal.returns-in_err-ready-clause-journal
returns-in_err-ready-clause-journal g c =
    let failed : c.from_residual.result ≡ Err c.in_err-ready.field-0.0 = search rules in
    let full : Type 0 = WhereTold (g.F.Shelf.told c.args.shelf.now) (λ files. IsFullFor (OutcomeFrom (Ok (Run c.args.job.now (option_copied c.args.vex) c.args.epoch c.args.workers c.args.piece)) files) files
    (g.D.Disk.seen c.args.journal.now) (g.D.Disk.seen c.args.journal.now)) in
    subst (λ (q : Result (Unit {0}) Refusal). CountsJournalOr full (g.D.Disk.faults c.args.journal.now) (g.D.Disk.faults c.args.journal.now) q) (sym failed)
    (files-counts full (g.D.Disk.faults c.args.journal.now) c.in_err-ready.field-0.0 c.in_err-ready.ensures.stage)

pub returns-in_err-kept-clause-journal : goal.returns-in_err-kept-clause-journal
returns-in_err-kept-clause-journal g c =
    let ready = c.in_ok-ready.ready in
    let failed : c.from_residual-in_err-kept.result ≡ Err c.in_err-kept.field-0.0 = search rules in
    subst (λ (q : Result (Unit {0}) Refusal). CountsJournalOr (WhereTold (g.F.Shelf.told c.args.shelf.now) (λ files. IsFullFor (OutcomeFrom (Ok (Run c.args.job.now (option_copied c.args.vex) c.args.epoch c.args.workers c.args.piece)) files) files
    (g.D.Disk.seen c.args.journal.now) (g.D.Disk.seen c.resume.new.disk))) (g.D.Disk.faults c.args.journal.now) (g.D.Disk.faults c.resume.new.disk) q) (sym failed)
    (resumed-counts c.walks_end.ensures c.no_more_are_left_than_all.ensures (g.F.Shelf.told c.args.shelf.now) (Run c.args.job.now (option_copied c.args.vex) c.args.epoch c.args.workers c.args.piece)
    (run_call c.args.job.now (option_copied c.args.vex) c.args.epoch ready.plan) ready.identity ready.epochs ready.epoch
    (g.D.Disk.seen c.args.journal.now) (g.D.Disk.seen c.resume.new.disk) (g.D.Disk.faults c.args.journal.now) (g.D.Disk.faults c.resume.new.disk) c.in_err-kept.field-0.0
    (search rules) (search rules) ready.some_epoch ready.short_epoch ready.few_epochs
    (run-summer c.args.job.now (option_copied c.args.vex) c.args.epoch ready.plan (g.F.Shelf.told c.args.shelf.now) c.args.workers c.args.piece ready.identity ready.epochs ready.epoch
    c.in_ok-ready.ensures.plan c.in_ok-ready.ensures.identity ready.cut c.in_ok-ready.ensures.epoch)
    c.in_err-kept.ensures.refused c.in_err-kept.ensures.journal)

pub returns-clause-journal : goal.returns-clause-journal
returns-clause-journal g c = emitted-counts _ (g.D.Disk.faults c.args.journal.now) (g.D.Disk.faults c.resume.new.disk) (g.D.Disk.faults c.emit.new.disk) c.emit.result c.in_ok-kept.ensures.journal c.emit.ensures.journal

pub returns-in_err-ready-clause-ranged : goal.returns-in_err-ready-clause-ranged
returns-in_err-ready-clause-ranged g c =
    where_always (g.F.Shelf.told c.args.shelf.now) _ (λ files. inl (looks_none g.D.Disk.seen g.D.Disk.moment g.D.Disk.may_leave c.args.journal.now))

pub returns-in_err-kept-clause-ranged : goal.returns-in_err-kept-clause-ranged
returns-in_err-kept-clause-ranged g c =
    let ready = c.in_ok-ready.ready in
    let ranges : IsPlan c.in_ok-ready.ready.plan = search rules in
    ranged-at g.D.Disk.seen g.D.Disk.moment g.D.Disk.may_leave (g.F.Shelf.told c.args.shelf.now) (Run c.args.job.now (option_copied c.args.vex) c.args.epoch c.args.workers c.args.piece)
    (run_call c.args.job.now (option_copied c.args.vex) c.args.epoch ready.plan) c.args.journal.now c.resume.new.disk ranges ready.few
    (where_then (g.F.Shelf.told c.args.shelf.now) _ _ (λ files there. (refl, there)) c.in_ok-ready.ensures.plan)

pub returns-clause-ranged : goal.returns-clause-ranged
returns-clause-ranged g c =
    let ready = c.in_ok-ready.ready in
    let ranges : IsPlan c.in_ok-ready.ready.plan = search rules in
    ranged-at g.D.Disk.seen g.D.Disk.moment g.D.Disk.may_leave (g.F.Shelf.told c.args.shelf.now) (Run c.args.job.now (option_copied c.args.vex) c.args.epoch c.args.workers c.args.piece)
    (run_call c.args.job.now (option_copied c.args.vex) c.args.epoch ready.plan) c.args.journal.now c.emit.new.disk ranges ready.few
    (where_then (g.F.Shelf.told c.args.shelf.now) _ _ (λ files there. (refl, there)) c.in_ok-ready.ensures.plan)
