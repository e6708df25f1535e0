use Rattle.std.proofs.Common.{sym, subst, arith, rules}
use Rattle.checkpoint_journal.proofs.RunLemmas.{changes_none}
use Rattle.journal_image.proofs.ThingLemmas.{epoch-IsOfPlan}
use Rattle.checkpoint_journal.specs.Kept.{kept_epoch}
use Rattle.checkpoint_journal.specs.Runs.{AddsEpoch}
use Rattle.checkpoint_journal.specs.Standing.{JournalState, Stands}
use Rattle.checkpoint_journal.proofs.AppendLemmas.{adds_epoch-same, stands_inside, appended_stands, appended_one_more, appended_changes}
use Rattle.checkpoint_journal.proofs.journal.Journal.append.Goals as goal

pub returns-then-end-ge-PAST-clause-changes : goal.returns-then-end-ge-PAST-clause-changes
returns-then-end-ge-PAST-clause-changes g c = λ id stands.
    let one = kept_epoch c.args.e.now c.args.sums.now.cells in
    changes_none g.D.Disk.seen g.D.Disk.moment g.D.Disk.may_leave (AddsEpoch id c.args.plan.now c.args.self.now.end.kept one)
    (adds_epoch-same id c.args.plan.now c.args.self.now.end.kept one) c.args.disk.now

pub keep_record-requires-clause-within : goal.keep_record-requires-clause-within
keep_record-requires-clause-within g c =
    let id = c.requires.stands.0 in
    let seen = g.D.Disk.seen c.args.disk.now in
    let images = g.D.Disk.may_leave c.args.disk.now (g.D.Disk.moment c.args.disk.now) in
    stands_inside id c.args.plan.now _ seen images (subst (λ (s : JournalState). Stands id c.args.plan.now s seen images) (sym c.self.view_is) c.requires.stands.1)

pub returns-in-Ok-clause-stands : goal.returns-in-Ok-clause-stands
returns-in-Ok-clause-stands g c = λ id stands.
    let end = c.past_record-end.ensures in
    appended_stands g.D.Disk.seen g.D.Disk.moment g.D.Disk.may_leave id c.args.plan.now _ c.args.self.now c.self.view_is c.args.disk.now stands
    c.args.e.now c.args.sums.now.cells c.requires.begins c.requires.fits c.requires.cells
    c.past_record-end.result c.keep_record.new.disk end.same.0 end.kept end.gate end.same.1 end.next end.place (omega arith)
    c.keep_record.ensures.tells (λ r due. c.in-Ok.ensures.added id c.args.plan.now r stands.named stands.plan due) c.in-Ok.ensures.durable

pub returns-in-Ok-clause-added : goal.returns-in-Ok-clause-added
returns-in-Ok-clause-added g c = λ id stands.
    appended_one_more g.D.Disk.seen g.D.Disk.moment g.D.Disk.may_leave id c.args.plan.now _ c.args.self.now c.self.view_is c.args.disk.now stands
    c.args.e.now c.args.sums.now.cells c.requires.begins c.requires.fits c.requires.cells
    c.keep_record.new.disk c.keep_record.ensures.tells (λ r due. c.in-Ok.ensures.added id c.args.plan.now r stands.named stands.plan due)

pub returns-in-Ok-clause-changes : goal.returns-in-Ok-clause-changes
returns-in-Ok-clause-changes g c = λ id stands.
    appended_changes g.D.Disk.seen g.D.Disk.moment g.D.Disk.may_leave id c.args.plan.now _ c.args.self.now c.self.view_is c.args.disk.now stands
    c.args.e.now c.args.sums.now.cells c.requires.begins c.requires.fits c.requires.cells
    g.met.D.Disk.seen_is_image c.keep_record.new.disk c.keep_record.ensures.tells (λ r due. c.keep_record.ensures.changes id c.args.plan.now r stands.named stands.plan due)

pub returns-in-Err-clause-changes : goal.returns-in-Err-clause-changes
returns-in-Err-clause-changes g c = λ id stands.
    appended_changes g.D.Disk.seen g.D.Disk.moment g.D.Disk.may_leave id c.args.plan.now _ c.args.self.now c.self.view_is c.args.disk.now stands
    c.args.e.now c.args.sums.now.cells c.requires.begins c.requires.fits c.requires.cells
    g.met.D.Disk.seen_is_image c.keep_record.new.disk c.keep_record.ensures.tells (λ r due. c.keep_record.ensures.changes id c.args.plan.now r stands.named stands.plan due)

pub past_record-end-requires-clause-of_plan : goal.past_record-end-requires-clause-of_plan
past_record-end-requires-clause-of_plan g c = epoch-IsOfPlan c.args.plan.now c.args.e.now c.requires.stands.1.plan c.requires.fits

pub keep_record-requires-clause-fits : goal.keep_record-requires-clause-fits
keep_record-requires-clause-fits g c = record {
  of_plan = epoch-IsOfPlan c.args.plan.now c.args.e.now c.requires.stands.1.plan c.requires.fits;
  many = c.requires.cells;
  room = search rules;
  parts = search rules;
}
