use Rattle.std.proofs.Common.{◌∙◌, ap, take, Option, Some, None, subst}
use Rattle.job_epochs.specs.Added.{add_cells}
use Rattle.piece_plan.specs.declared.epoch.EpochPlan.{EpochPlan}
use Rattle.dev_traits.specs.Told.{WhereTold}
use Rattle.checkpoint_journal.specs.Kept.{ReadsNext}
use Rattle.checkpoint_journal.specs.Standing.{IsNext}
use Rattle.journal_records.specs.Store.{store}
use Rattle.journal_records.proofs.ReadingLemmas.{next-added}
use Rattle.journal_records.proofs.sums.add_next.Goals as goal

pub returns-in-Some-clause-added : goal.returns-in-Some-clause-added
returns-in-Some-clause-added g c = λ id kept due t.
    next-added g.D.Disk.seen g.D.Disk.moment g.D.Disk.may_leave c.args.epochs.now id kept due (store c.args.journal.now c.args.disk.now) t
    c.read_next.new.self (Some c.in-Some.e) c.read_next.new.out c.args.sums.now c.add_cells.new.sums
    (subst (λ (o : Option EpochPlan). WhereTold (g.D.Disk.seen c.args.disk.now) (λ image. ReadsNext id c.args.epochs.now image c.args.journal.now.here.kept o c.read_next.new.out)) c.in-Some.is
    (c.in_ok-e.ensures.reads id t.stands))
    (subst (λ (o : Option EpochPlan). IsNext c.args.epochs.now c.args.journal.now c.read_next.new.self o) c.in-Some.is c.in_ok-e.ensures.next)
    (c.add_cells.ensures ∙ ap (λ n. add_cells c.args.sums.now (take n c.read_next.new.out)) c.cells.ensures)

pub returns-in-None-clause-added : goal.returns-in-None-clause-added
returns-in-None-clause-added g c = λ id kept due t.
    next-added g.D.Disk.seen g.D.Disk.moment g.D.Disk.may_leave c.args.epochs.now id kept due (store c.args.journal.now c.args.disk.now) t
    c.read_next.new.self None c.read_next.new.out c.args.sums.now c.args.sums.now
    (subst (λ (o : Option EpochPlan). WhereTold (g.D.Disk.seen c.args.disk.now) (λ image. ReadsNext id c.args.epochs.now image c.args.journal.now.here.kept o c.read_next.new.out)) c.in-None.is
    (c.in_ok-e.ensures.reads id t.stands))
    (subst (λ (o : Option EpochPlan). IsNext c.args.epochs.now c.args.journal.now c.read_next.new.self o) c.in-None.is c.in_ok-e.ensures.next)
    tt
