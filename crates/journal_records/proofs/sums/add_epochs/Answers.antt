use Rattle.std.proofs.Common.{◌∙◌, ℕ, Option, refl, subst}
use Rattle.journal_records.specs.Reading.{AddsNext}
use Rattle.journal_records.specs.Store.{store}
use Rattle.journal_records.proofs.StoreLemmas.{rests-none, rests-both, tells-on}
use Rattle.journal_records.proofs.ReadingLemmas.{tells-cut, added-begin, added-next, added-not-none, added-end}
use Rattle.journal_records.proofs.sums.add_epochs.Goals as goal

pub loop-at-init : goal.loop-at-init
loop-at-init g c = record {
  stands = c.requires.stands;
  rests = rests-none _ _ _ _ (store c.args.journal.now c.args.disk.now);
  count = refl;
  added = λ number m size is id kept t.
      added-begin c.args.epochs.now number size m c.args.from c.args.to is kept c.args.journal.now c.args.sums.now t.up_to
      (tells-cut g.D.Disk.seen g.D.Disk.moment g.D.Disk.may_leave c.args.epochs.now id kept _ (store c.args.journal.now c.args.disk.now) t);
}

pub returns-in_err-end-clause-rests : goal.returns-in_err-end-clause-rests
returns-in_err-end-clause-rests g c =
    rests-both _ _ _ _ (store c.args.journal.now c.args.disk.now) (store c.loop-at.journal c.loop-at.disk) (store c.add_next.new.journal c.add_next.new.disk)
    c.loop-at.invariant.rests c.in_err-end.ensures.rests

pub loop-at-preserved : goal.loop-at-preserved
loop-at-preserved g c =
    let before = c.loop-at.invariant in
    let one = c.in_ok-end.ensures in
    record {
      stands = one.stands;
      rests = rests-both _ _ _ _ (store c.args.journal.now c.args.disk.now) (store c.loop-at.journal c.loop-at.disk) (store c.add_next.new.journal c.add_next.new.disk)
          before.rests one.rests;
      count = one.counts.kept ∙ before.count;
      added = λ number m size is id kept t.
          let so_far = before.added number m size is id kept t in
          let here = tells-on g.D.Disk.seen g.D.Disk.moment g.D.Disk.may_leave c.args.epochs.now id kept _ _ (store c.args.journal.now c.args.disk.now)
          (store c.loop-at.journal c.loop-at.disk) t before.rests so_far.up_to in
          added-next c.args.epochs.now number size m c.args.from c.args.to is kept c.loop-at.at c.args.sums.now c.loop-at.sums c.add_next.new.sums
          c.loop-at.journal c.add_next.new.journal c.in-Some.end c.loop-at-test.true so_far
          (subst (λ (o : Option ℕ). AddsNext c.args.epochs.now kept c.loop-at.journal c.add_next.new.journal c.loop-at.sums c.add_next.new.sums o) c.in-Some.is
          (one.added id kept _ here));
    }

pub returns-in-None-clause-added : goal.returns-in-None-clause-added
returns-in-None-clause-added g c = λ number m size is id kept t.
    let before = c.loop-at.invariant in
    let so_far = before.added number m size is id kept t in
    let here = tells-on g.D.Disk.seen g.D.Disk.moment g.D.Disk.may_leave c.args.epochs.now id kept _ _ (store c.args.journal.now c.args.disk.now)
    (store c.loop-at.journal c.loop-at.disk) t before.rests so_far.up_to in
    absurd (added-not-none c.args.epochs.now number size m c.args.from c.args.to is kept c.loop-at.at c.args.sums.now c.loop-at.sums c.loop-at.journal c.loop-at-test.true so_far
    (subst (λ (o : Option ℕ). AddsNext c.args.epochs.now kept c.loop-at.journal c.add_next.new.journal c.loop-at.sums c.add_next.new.sums o) c.in-None.is
    (c.in_ok-end.ensures.added id kept _ here)))

pub returns-in-None-clause-rests : goal.returns-in-None-clause-rests
returns-in-None-clause-rests g c =
    rests-both _ _ _ _ (store c.args.journal.now c.args.disk.now) (store c.loop-at.journal c.loop-at.disk) (store c.add_next.new.journal c.add_next.new.disk)
    c.loop-at.invariant.rests c.in_ok-end.ensures.rests

pub returns-clause-added : goal.returns-clause-added
returns-clause-added g c = λ number m size is id kept t.
    added-end c.args.epochs.now number size m c.args.from c.args.to is kept c.loop-at.at c.args.sums.now c.loop-at.sums c.loop-at.journal c.loop-at-test.false
    (c.loop-at.invariant.added number m size is id kept t)
