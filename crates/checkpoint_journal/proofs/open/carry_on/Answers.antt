use Rattle.std.proofs.Common.{◌≡◌, ◌≢◌, None, false, sym, subst, rules}
use Rattle.dev_traits.specs.Told.{WhereTold}
use Rattle.checkpoint_journal.proofs.RunLemmas.{changes_none}
use Rattle.checkpoint_journal.specs.declared.finding.Found.{Found}
use Rattle.checkpoint_journal.specs.Finding.{IsFound}
use Rattle.checkpoint_journal.specs.Runs.{KeepsEpochs}
use Rattle.checkpoint_journal.proofs.BeginLemmas.{epochs_stay}
use Rattle.checkpoint_journal.proofs.OpenLemmas.{mark_due, mark_found, mark_keeps}
use Rattle.checkpoint_journal.proofs.open.carry_on.Goals as goal

pub returns-then-not-lacks_mark-clause-changes : goal.returns-then-not-lacks_mark-clause-changes
returns-then-not-lacks_mark-clause-changes g c = λ id job named is found.
    changes_none g.D.Disk.seen g.D.Disk.moment g.D.Disk.may_leave (KeepsEpochs id job) (epochs_stay id job) c.args.disk.now

pub returns-then-found-clause-changes : goal.returns-then-found-clause-changes
returns-then-found-clause-changes g c = λ id job named is found.
    changes_none g.D.Disk.seen g.D.Disk.moment g.D.Disk.may_leave (KeepsEpochs id job) (epochs_stay id job) c.args.disk.now

pub returns-in_err-keep_mark-clause-changes : goal.returns-in_err-keep_mark-clause-changes
returns-in_err-keep_mark-clause-changes g c = λ id job named is found.
    mark_keeps g.D.Disk.seen g.D.Disk.moment g.D.Disk.may_leave g.met.D.Disk.seen_is_image id job named is c.args.found.now (c.lacks_mark.ensures.lacks (search rules)) _ _ found c.requires.durable
    c.keep_mark.ensures.tells (λ r due. c.keep_mark.ensures.changes id job r named is due)

pub returns-clause-changes : goal.returns-clause-changes
returns-clause-changes g c = λ id job named is found.
    mark_keeps g.D.Disk.seen g.D.Disk.moment g.D.Disk.may_leave g.met.D.Disk.seen_is_image id job named is c.args.found.now (c.lacks_mark.ensures.lacks (search rules)) _ _ found c.requires.durable
    c.keep_mark.ensures.tells (λ r due. c.keep_mark.ensures.changes id job r named is due)

pub returns-clause-opens : goal.returns-clause-opens
returns-clause-opens g c = λ id job named is found.
    let f = c.args.found.now in
    let new = g.D.Disk.seen c.keep_mark.new.disk in
    let lacks : (f.ranged ≡ false) × (f.next ≢ None) = c.lacks_mark.ensures.lacks (search rules) in
    let m = mark_due id job f (g.D.Disk.seen c.args.disk.now) lacks.0 lacks.1 found in
    subst (λ (h : Found). WhereTold new (λ image. IsFound id job image h)) (sym c.past_mark.ensures)
    (mark_found id job f (g.D.Disk.seen c.args.disk.now) new m c.keep_mark.ensures.tells (c.in_ok-keep_mark.ensures.added id job m.reading named is m.due))
