use Rattle.std.specs.Prelude.{option_copied}
use Rattle.std.proofs.Common.{◌≡◌, Result, Ok, Err, rules, refl, sym, subst, Option}
use Rattle.dev_traits.specs.Told.{WhereTold}
use Rattle.corr_model.specs.Files.{Files}
use Rattle.job_plan.specs.Ranges.{IsPlan}
use Rattle.checkpoint_journal.proofs.RunLemmas.{looks_none}
use Rattle.vis_writer.proofs.WritesLemmas.{where_always}
use Rattle.run_words.specs.declared.order.Order.TheVariants.{Shard}
use Rattle.run_notes.specs.declared.refusal.Refusal.{Refusal}
use Rattle.vlbi_core.specs.Faults.{written_with}
use Rattle.vlbi_core.specs.Steps.{OutcomeFrom, IsFullFor, CountsJournalOr, Does, Leaves}
use Rattle.vlbi_core.proofs.CorrelationLemmas.{Resumed, Brought, does-resumed, resumed-leaves, does-brought, resumed-counts}
use Rattle.vlbi_core.proofs.ShardLemmas.{shard_call, shard-summer, shard-ranged, shard-text, line-refused, line-leaves}
use Rattle.vlbi_core.proofs.shard.shard_job.Goals as goal

pub returns-in_err-_kept-clause-does : goal.returns-in_err-_kept-clause-does
returns-in_err-_kept-clause-does g c =
    let part = c.in_ok-part.part in
    let failed : c.from_residual-in_err-_kept.result ≡ Err c.in_err-_kept.field-0.0 = search rules in
    subst (λ (q : Result (Unit {0}) Refusal). WhereTold (g.F.Shelf.told c.args.shelf.now)
    (λ files. Does (Ok (Shard c.args.job.now (option_copied c.args.vex) c.args.epoch c.args.workers c.args.piece c.args.from c.args.to)) files
    g.D.Disk.seen g.D.Disk.moment g.D.Disk.may_leave c.args.journal.now c.resume_part.new.disk (g.S.Sink.told c.args.out.now) (g.S.Sink.told c.args.out.now) q)) (sym failed)
    (does-resumed g.D.Disk.seen g.D.Disk.moment g.D.Disk.may_leave (g.F.Shelf.told c.args.shelf.now)
    (Shard c.args.job.now (option_copied c.args.vex) c.args.epoch c.args.workers c.args.piece c.args.from c.args.to)
    (shard_call c.args.job.now (option_copied c.args.vex) c.args.epoch c.args.from c.args.to part.ready.plan) part.identity part.plan part.ready.epoch
    c.args.journal.now c.resume_part.new.disk (g.S.Sink.told c.args.out.now) c.in_err-_kept.field-0.0
    (shard-summer c.args.job.now (option_copied c.args.vex) c.args.epoch c.args.from c.args.to part.ready.plan (g.F.Shelf.told c.args.shelf.now) c.args.workers c.args.piece
    part.identity part.ready.epochs part.plan part.ready.epoch
    c.in_ok-part.ensures.plan c.in_ok-part.ensures.identity c.in_ok-part.ensures.limited part.ready.cut c.in_ok-part.ensures.epoch)
    (subst (λ (t : Option Files). Resumed g.D.Disk.seen g.D.Disk.moment g.D.Disk.may_leave t part.ready.plan part.identity part.plan part.ready.epoch
    c.args.journal.now c.resume_part.new.disk c.in_err-_kept.field-0.0)
    c.in_ok-part.ensures.same
    (record { changes = c.in_err-_kept.ensures.changes; spares = c.in_err-_kept.ensures.spares; refused = c.in_err-_kept.ensures.refused; named = c.in_err-_kept.ensures.named })))

pub returns-clause-does : goal.returns-clause-does
returns-clause-does g c =
    let part = c.in_ok-part.part in
    let line = c.write_shard.result in
    subst (λ (q : Result (Unit {0}) Refusal). WhereTold (g.F.Shelf.told c.args.shelf.now)
    (λ files. Does (Ok (Shard c.args.job.now (option_copied c.args.vex) c.args.epoch c.args.workers c.args.piece c.args.from c.args.to)) files
    g.D.Disk.seen g.D.Disk.moment g.D.Disk.may_leave c.args.journal.now c.resume_part.new.disk (g.S.Sink.told c.args.out.now) (g.S.Sink.told c.write_shard.new.out) q)) (sym c.written.ensures)
    (does-brought g.D.Disk.seen g.D.Disk.moment g.D.Disk.may_leave (g.F.Shelf.told c.args.shelf.now)
    (Shard c.args.job.now (option_copied c.args.vex) c.args.epoch c.args.workers c.args.piece c.args.from c.args.to)
    (shard_call c.args.job.now (option_copied c.args.vex) c.args.epoch c.args.from c.args.to part.ready.plan) part.identity part.plan part.ready.epoch c.in_ok-_kept._kept
    c.args.journal.now c.resume_part.new.disk c.resume_part.new.disk (g.S.Sink.told c.args.out.now) (g.S.Sink.told c.write_shard.new.out) (written_with line)
    (shard-summer c.args.job.now (option_copied c.args.vex) c.args.epoch c.args.from c.args.to part.ready.plan (g.F.Shelf.told c.args.shelf.now) c.args.workers c.args.piece
    part.identity part.ready.epochs part.plan part.ready.epoch
    c.in_ok-part.ensures.plan c.in_ok-part.ensures.identity c.in_ok-part.ensures.limited part.ready.cut c.in_ok-part.ensures.epoch)
    (subst (λ (t : Option Files). Brought g.D.Disk.seen g.D.Disk.moment g.D.Disk.may_leave t part.ready.plan part.identity part.plan part.ready.epoch c.in_ok-_kept._kept
    c.args.journal.now c.resume_part.new.disk c.resume_part.new.disk (g.S.Sink.told c.args.out.now) (g.S.Sink.told c.write_shard.new.out) (written_with line))
    c.in_ok-part.ensures.same
    (record {
      changes = c.in_ok-_kept.ensures.changes;
      stands = c.in_ok-_kept.ensures.stands;
      covers = c.in_ok-_kept.ensures.covers;
      looks = looks_none g.D.Disk.seen g.D.Disk.moment g.D.Disk.may_leave c.resume_part.new.disk;
      refused = line-refused _ (g.S.Sink.told c.args.out.now) (g.S.Sink.told c.write_shard.new.out) line;
    }))
    (where_always (g.F.Shelf.told c.args.shelf.now) _ (λ files. shard-text c.args.job.now (option_copied c.args.vex) c.args.epoch c.args.from c.args.to part.ready.plan files c.in_ok-_kept._kept
    (g.D.Disk.seen c.args.journal.now) (g.D.Disk.seen c.resume_part.new.disk) (g.S.Sink.told c.args.out.now) (g.S.Sink.told c.write_shard.new.out) _ _ line c.write_shard.ensures)))

pub returns-in_err-_kept-clause-leaves : goal.returns-in_err-_kept-clause-leaves
returns-in_err-_kept-clause-leaves g c =
    let part = c.in_ok-part.part in
    let failed : c.from_residual-in_err-_kept.result ≡ Err c.in_err-_kept.field-0.0 = search rules in
    subst (λ (q : Result (Unit {0}) Refusal). Leaves (Ok (Shard c.args.job.now (option_copied c.args.vex) c.args.epoch c.args.workers c.args.piece c.args.from c.args.to))
    g.D.Disk.seen g.D.Disk.moment g.D.Disk.may_leave c.args.journal.now c.resume_part.new.disk (g.S.Sink.told c.args.out.now) (g.S.Sink.told c.args.out.now) q) (sym failed)
    (resumed-leaves g.D.Disk.seen g.D.Disk.moment g.D.Disk.may_leave (Shard c.args.job.now (option_copied c.args.vex) c.args.epoch c.args.workers c.args.piece c.args.from c.args.to)
    part.identity part.plan c.args.journal.now c.resume_part.new.disk (g.S.Sink.told c.args.out.now) c.in_err-_kept.field-0.0 refl c.in_err-_kept.ensures.refused)

pub returns-clause-leaves : goal.returns-clause-leaves
returns-clause-leaves g c =
    subst (λ (q : Result (Unit {0}) Refusal). Leaves (Ok (Shard c.args.job.now (option_copied c.args.vex) c.args.epoch c.args.workers c.args.piece c.args.from c.args.to))
    g.D.Disk.seen g.D.Disk.moment g.D.Disk.may_leave c.args.journal.now c.resume_part.new.disk (g.S.Sink.told c.args.out.now) (g.S.Sink.told c.write_shard.new.out) q) (sym c.written.ensures)
    (line-leaves g.D.Disk.seen g.D.Disk.moment g.D.Disk.may_leave (Shard c.args.job.now (option_copied c.args.vex) c.args.epoch c.args.workers c.args.piece c.args.from c.args.to)
    c.args.journal.now c.resume_part.new.disk (g.S.Sink.told c.args.out.now) (g.S.Sink.told c.write_shard.new.out) c.write_shard.result refl)

pub returns-in_err-_kept-clause-journal : goal.returns-in_err-_kept-clause-journal
returns-in_err-_kept-clause-journal g c =
    let part = c.in_ok-part.part in
    let failed : c.from_residual-in_err-_kept.result ≡ Err c.in_err-_kept.field-0.0 = search rules in
    subst (λ (q : Result (Unit {0}) Refusal). CountsJournalOr (WhereTold (g.F.Shelf.told c.args.shelf.now)
    (λ files. IsFullFor (OutcomeFrom (Ok (Shard c.args.job.now (option_copied c.args.vex) c.args.epoch c.args.workers c.args.piece c.args.from c.args.to)) files) files
    (g.D.Disk.seen c.args.journal.now) (g.D.Disk.seen c.resume_part.new.disk))) (g.D.Disk.faults c.args.journal.now) (g.D.Disk.faults c.resume_part.new.disk) q) (sym failed)
    (resumed-counts c.walks_end.ensures c.no_more_are_left_than_all.ensures (g.F.Shelf.told c.args.shelf.now)
    (Shard c.args.job.now (option_copied c.args.vex) c.args.epoch c.args.workers c.args.piece c.args.from c.args.to)
    (shard_call c.args.job.now (option_copied c.args.vex) c.args.epoch c.args.from c.args.to part.ready.plan) part.identity part.plan part.ready.epoch
    (g.D.Disk.seen c.args.journal.now) (g.D.Disk.seen c.resume_part.new.disk) (g.D.Disk.faults c.args.journal.now) (g.D.Disk.faults c.resume_part.new.disk) c.in_err-_kept.field-0.0
    (search rules) (search rules) part.ready.some_epoch part.ready.short_epoch c.in_ok-part.ensures.few
    (shard-summer c.args.job.now (option_copied c.args.vex) c.args.epoch c.args.from c.args.to part.ready.plan (g.F.Shelf.told c.args.shelf.now) c.args.workers c.args.piece
    part.identity part.ready.epochs part.plan part.ready.epoch
    c.in_ok-part.ensures.plan c.in_ok-part.ensures.identity c.in_ok-part.ensures.limited part.ready.cut c.in_ok-part.ensures.epoch)
    c.in_err-_kept.ensures.refused c.in_err-_kept.ensures.journal)

pub returns-in_err-_kept-clause-ranged : goal.returns-in_err-_kept-clause-ranged
returns-in_err-_kept-clause-ranged g c =
    let ranges : IsPlan c.in_ok-part.part.ready.plan = search rules in
    shard-ranged c.args.job.now (option_copied c.args.vex) c.args.epoch c.args.from c.args.to c.in_ok-part.part.ready.plan g.D.Disk.seen g.D.Disk.moment g.D.Disk.may_leave
    (g.F.Shelf.told c.args.shelf.now) c.args.workers c.args.piece c.args.journal.now c.resume_part.new.disk ranges c.in_ok-part.part.ready.few c.in_ok-part.ensures.plan

pub returns-clause-ranged : goal.returns-clause-ranged
returns-clause-ranged g c =
    let ranges : IsPlan c.in_ok-part.part.ready.plan = search rules in
    shard-ranged c.args.job.now (option_copied c.args.vex) c.args.epoch c.args.from c.args.to c.in_ok-part.part.ready.plan g.D.Disk.seen g.D.Disk.moment g.D.Disk.may_leave
    (g.F.Shelf.told c.args.shelf.now) c.args.workers c.args.piece c.args.journal.now c.resume_part.new.disk ranges c.in_ok-part.part.ready.few c.in_ok-part.ensures.plan
