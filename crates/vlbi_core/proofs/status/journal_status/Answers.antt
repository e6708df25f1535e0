use Rattle.std.specs.Prelude.{IfErr, option_copied}
use Rattle.std.proofs.Common.{◌≡◌, Result, Ok, Err, rules, arith, sym, subst}
use Rattle.dev_traits.specs.Told.{WhereTold}
use Rattle.piece_plan.specs.Epochs.{IsJob}
use Rattle.run_words.specs.declared.order.Order.TheVariants.{Status}
use Rattle.run_notes.specs.declared.refusal.Refusal.{Refusal}
use Rattle.vlbi_core.specs.Steps.{IsUnnumbered, Does}
use Rattle.vlbi_core.proofs.JournalLemmas.{looked-unnumbered, left-few, status-looked, status-kept}
use Rattle.vlbi_core.proofs.status.journal_status.Goals as goal

pub overflow_add-seen : goal.overflow_add-seen
overflow_add-seen g c =
    let survey = c.in_ok-survey.survey in
    let is : IsJob survey.epochs = search rules in
    let few = left-few c.no_more_are_left_than_all.ensures survey.epochs survey.epoch c.in_ok-seen.seen.next c.left-left.result is survey.some_epoch survey.short_epoch survey.few_epochs
    c.in_ok-seen.ensures.place c.left-left.ensures in
    omega (arith, few, c.in_ok-seen.ensures.many)

pub returns-in_err-seen-clause-does : goal.returns-in_err-seen-clause-does
returns-in_err-seen-clause-does g c =
    let survey = c.in_ok-survey.survey in
    let failed : c.from_residual-in_err-seen.result ≡ Err c.in_err-seen.field-0.0 = search rules in
    subst (λ (q : Result (Unit {0}) Refusal). WhereTold (g.F.Shelf.told c.args.shelf.now)
    (λ files. Does (Ok (Status c.args.job.now (option_copied c.args.vex) c.args.epoch)) files g.D.Disk.seen g.D.Disk.moment g.D.Disk.may_leave c.args.journal.now c.look.new.journal
    (g.S.Sink.told c.args.out.now) (g.S.Sink.told c.args.out.now) q)) (sym failed)
    (status-looked g.D.Disk.seen g.D.Disk.moment g.D.Disk.may_leave (g.F.Shelf.told c.args.shelf.now) c.args.job.now (option_copied c.args.vex) c.args.epoch survey.plan survey.identity survey.epochs
    c.args.journal.now c.look.new.journal (g.S.Sink.told c.args.out.now) c.in_err-seen.field-0.0
    c.in_ok-survey.ensures.plan c.in_ok-survey.ensures.identity survey.cut c.in_err-seen.ensures.refused c.in_err-seen.ensures.looks)

pub returns-clause-does : goal.returns-clause-does
returns-clause-does g c =
    let survey = c.in_ok-survey.survey in
    subst (λ (q : Result (Unit {0}) Refusal). WhereTold (g.F.Shelf.told c.args.shelf.now)
    (λ files. Does (Ok (Status c.args.job.now (option_copied c.args.vex) c.args.epoch)) files g.D.Disk.seen g.D.Disk.moment g.D.Disk.may_leave c.args.journal.now c.look.new.journal
    (g.S.Sink.told c.args.out.now) (g.S.Sink.told c.write_kept.new.out) q)) (sym c.written.ensures)
    (status-kept g.D.Disk.seen g.D.Disk.moment g.D.Disk.may_leave (g.F.Shelf.told c.args.shelf.now) c.args.job.now (option_copied c.args.vex) c.args.epoch survey.plan survey.identity survey.epochs survey.epoch c.in_ok-seen.seen c.left-left.result
    c.args.journal.now c.look.new.journal (g.S.Sink.told c.args.out.now) (g.S.Sink.told c.write_kept.new.out) _ _ c.write_kept.result
    c.in_ok-survey.ensures.plan c.in_ok-survey.ensures.identity survey.cut c.in_ok-survey.ensures.epoch c.in_ok-seen.ensures.looks c.in_ok-seen.ensures.sees c.left-left.ensures c.write_kept.ensures)

pub returns-in_err-seen-clause-unnumbered : goal.returns-in_err-seen-clause-unnumbered
returns-in_err-seen-clause-unnumbered g c =
    let failed : c.from_residual-in_err-seen.result ≡ Err c.in_err-seen.field-0.0 = search rules in
    subst (λ (q : Result (Unit {0}) Refusal). IfErr q IsUnnumbered) (sym failed)
    (looked-unnumbered _ _ _ c.in_err-seen.field-0.0 c.in_err-seen.ensures.refused)
