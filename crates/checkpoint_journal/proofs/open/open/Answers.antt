use Rattle.std.specs.Prelude.{IfOk}
use Rattle.std.proofs.Common.{◌≡◌, ◌∙◌, ◌<◌, ◌++◌, ◌∷◌, [], List, ℕ, length, Option, inl, inr, subst, sym}
use Rattle.dev_traits.proofs.ToldLemmas.{WhereTold-weaker}
use Rattle.checkpoint_journal.proofs.RunLemmas.{looks_of, looks_after, durable_looks}
use Rattle.checkpoint_journal.specs.Finding.{FindsPlace, FindsBehind, IsFound}
use Rattle.checkpoint_journal.specs.Opening.{Opens}
use Rattle.checkpoint_journal.proofs.BeginLemmas.{epochs_quiet, epochs_after}
use Rattle.checkpoint_journal.proofs.OpenLemmas.{told_finds, found_inside, blank_spared, found_spared, begun_found, begun_ready}
use Rattle.checkpoint_journal.proofs.open.open.Goals as goal

pub returns-in_err-sync-clause-changes : goal.returns-in_err-sync-clause-changes
returns-in_err-sync-clause-changes g c =
    epochs_quiet g.D.Disk.seen g.D.Disk.moment g.D.Disk.may_leave c.args.id.now c.args.plan.now _ _ (looks_of g.D.Disk.seen g.D.Disk.moment g.D.Disk.may_leave _ _ c.sync.ensures.same c.sync.ensures.goes)

pub returns-in_err-sync-clause-spares : goal.returns-in_err-sync-clause-spares
returns-in_err-sync-clause-spares g c = inl (looks_of g.D.Disk.seen g.D.Disk.moment g.D.Disk.may_leave _ _ c.sync.ensures.same c.sync.ensures.goes)

pub returns-in_err-finding-clause-changes : goal.returns-in_err-finding-clause-changes
returns-in_err-finding-clause-changes g c =
    epochs_quiet g.D.Disk.seen g.D.Disk.moment g.D.Disk.may_leave c.args.id.now c.args.plan.now _ _ (looks_after g.D.Disk.seen g.D.Disk.moment g.D.Disk.may_leave _ _ _ c.sync.ensures.same c.sync.ensures.goes c.find.ensures.looks)

pub returns-in_err-finding-clause-spares : goal.returns-in_err-finding-clause-spares
returns-in_err-finding-clause-spares g c = inl (looks_after g.D.Disk.seen g.D.Disk.moment g.D.Disk.may_leave _ _ _ c.sync.ensures.same c.sync.ensures.goes c.find.ensures.looks)

-- another job's file
pub returns-in-Other-clause-changes : goal.returns-in-Other-clause-changes
returns-in-Other-clause-changes g c =
    epochs_quiet g.D.Disk.seen g.D.Disk.moment g.D.Disk.may_leave c.args.id.now c.args.plan.now _ _ (looks_after g.D.Disk.seen g.D.Disk.moment g.D.Disk.may_leave _ _ _ c.sync.ensures.same c.sync.ensures.goes c.find.ensures.looks)

pub returns-in-Other-clause-spares : goal.returns-in-Other-clause-spares
returns-in-Other-clause-spares g c = inl (looks_after g.D.Disk.seen g.D.Disk.moment g.D.Disk.may_leave _ _ _ c.sync.ensures.same c.sync.ensures.goes c.find.ensures.looks)

pub returns-in-Other-clause-durable : goal.returns-in-Other-clause-durable
returns-in-Other-clause-durable g c =
    durable_looks g.D.Disk.seen g.D.Disk.moment g.D.Disk.may_leave _ _ c.find.ensures.looks c.in_ok-sync.ensures.durable

pub returns-in-Other-clause-opens : goal.returns-in-Other-clause-opens
returns-in-Other-clause-opens g c =
    (c.find.ensures.looks.same ∙ c.sync.ensures.same, told_finds c.args.id.now c.args.plan.now _ _ _ _ c.in-Other.is (sym c.sync.ensures.same) c.in_ok-finding.ensures.finds)

-- a blank file
pub begin-requires-clause-durable : goal.begin-requires-clause-durable
begin-requires-clause-durable g c =
    durable_looks g.D.Disk.seen g.D.Disk.moment g.D.Disk.may_leave _ _ c.find.ensures.looks c.in_ok-sync.ensures.durable

pub begin-requires-clause-blank : goal.begin-requires-clause-blank
begin-requires-clause-blank g c =
    told_finds c.args.id.now c.args.plan.now _ _ _ _ c.in-Blank.is c.find.ensures.looks.same c.in_ok-finding.ensures.finds

pub returns-in_err-begin-in-Blank-clause-changes : goal.returns-in_err-begin-in-Blank-clause-changes
returns-in_err-begin-in-Blank-clause-changes g c =
    epochs_after g.D.Disk.seen g.D.Disk.moment g.D.Disk.may_leave c.args.id.now c.args.plan.now _ _ _ (looks_after g.D.Disk.seen g.D.Disk.moment g.D.Disk.may_leave _ _ _ c.sync.ensures.same c.sync.ensures.goes c.find.ensures.looks) (c.begin.ensures.changes c.args.plan.now c.find.ensures.job)

pub returns-in_ok-begin-in-Blank-clause-changes : goal.returns-in_ok-begin-in-Blank-clause-changes
returns-in_ok-begin-in-Blank-clause-changes g c =
    epochs_after g.D.Disk.seen g.D.Disk.moment g.D.Disk.may_leave c.args.id.now c.args.plan.now _ _ _ (looks_after g.D.Disk.seen g.D.Disk.moment g.D.Disk.may_leave _ _ _ c.sync.ensures.same c.sync.ensures.goes c.find.ensures.looks) (c.begin.ensures.changes c.args.plan.now c.find.ensures.job)

pub returns-in_err-begin-in-Blank-clause-spares : goal.returns-in_err-begin-in-Blank-clause-spares
returns-in_err-begin-in-Blank-clause-spares g c = inr (blank_spared c.args.id.now c.args.plan.now _ _ _ c.in-Blank.is c.sync.ensures.same c.in_ok-finding.ensures.finds)

pub returns-in_ok-begin-in-Blank-clause-spares : goal.returns-in_ok-begin-in-Blank-clause-spares
returns-in_ok-begin-in-Blank-clause-spares g c = inr (blank_spared c.args.id.now c.args.plan.now _ _ _ c.in-Blank.is c.sync.ensures.same c.in_ok-finding.ensures.finds)

pub returns-in_ok-begin-in-Blank-clause-opens : goal.returns-in_ok-begin-in-Blank-clause-opens
returns-in_ok-begin-in-Blank-clause-opens g c =
    let id = c.args.id.now in
    let job = c.args.plan.now in
    let f = c.first_gate.result in
    WhereTold-weaker _ (λ image. image ≡ 1 ∷ (id ++ 0 ∷ [])) (λ image. IsFound id job image f)
    (λ image is. begun_found id job image f is c.first_gate.ensures.old c.first_gate.ensures.kept c.first_gate.ensures.due c.first_gate.ensures.gate) c.in_ok-begin-in-Blank.ensures.begun

pub returns-in_ok-begin-in-Blank-clause-ready : goal.returns-in_ok-begin-in-Blank-clause-ready
returns-in_ok-begin-in-Blank-clause-ready g c =
    begun_ready c.args.id.now c.args.plan.now c.first_gate.result c.first_gate.ensures.due c.first_gate.ensures.gate c.first_gate.ensures.place

-- a journal of this job
pub carry_on-requires-clause-short : goal.carry_on-requires-clause-short
carry_on-requires-clause-short g c =
    let place = subst (FindsPlace c.args.plan.now) c.in-Ours.is c.in_ok-finding.ensures.place in
    place.short

pub carry_on-requires-clause-within : goal.carry_on-requires-clause-within
carry_on-requires-clause-within g c =
    let id = c.args.id.now in
    let job = c.args.plan.now in
    let f = c.in-Ours.found in
    let told = told_finds id job _ _ _ _ c.in-Ours.is c.find.ensures.looks.same c.in_ok-finding.ensures.finds in
    WhereTold-weaker _ (λ image. IsFound id job image f) (λ image. f.gate < length image) (λ image found. found_inside id job image f found) told

pub carry_on-requires-clause-durable : goal.carry_on-requires-clause-durable
carry_on-requires-clause-durable g c =
    durable_looks g.D.Disk.seen g.D.Disk.moment g.D.Disk.may_leave _ _ c.find.ensures.looks c.in_ok-sync.ensures.durable

pub returns-in-Ours-clause-opens : goal.returns-in-Ours-clause-opens
returns-in-Ours-clause-opens g c =
    let id = c.args.id.now in
    let job = c.args.plan.now in
    let told = told_finds id job _ _ _ _ c.in-Ours.is c.find.ensures.looks.same c.in_ok-finding.ensures.finds in
    subst (λ (o : Option (List ℕ)). IfOk c.carry_on.result (Opens id job o (g.D.Disk.seen c.carry_on.new.disk))) (c.find.ensures.looks.same ∙ c.sync.ensures.same)
    (c.carry_on.ensures.opens id job c.requires.named c.find.ensures.job told)

pub returns-in-Ours-clause-ready : goal.returns-in-Ours-clause-ready
returns-in-Ours-clause-ready g c =
    c.carry_on.ensures.ready c.args.id.now c.args.plan.now (subst (FindsPlace c.args.plan.now) c.in-Ours.is c.in_ok-finding.ensures.place) (subst (FindsBehind c.args.id.now) c.in-Ours.is c.in_ok-finding.ensures.behind)

pub returns-in-Ours-clause-changes : goal.returns-in-Ours-clause-changes
returns-in-Ours-clause-changes g c =
    let id = c.args.id.now in
    let job = c.args.plan.now in
    let told = told_finds id job _ _ _ _ c.in-Ours.is c.find.ensures.looks.same c.in_ok-finding.ensures.finds in
    epochs_after g.D.Disk.seen g.D.Disk.moment g.D.Disk.may_leave id job _ _ _ (looks_after g.D.Disk.seen g.D.Disk.moment g.D.Disk.may_leave _ _ _ c.sync.ensures.same c.sync.ensures.goes c.find.ensures.looks) (c.carry_on.ensures.changes id job c.requires.named c.find.ensures.job told)

pub returns-in-Ours-clause-spares : goal.returns-in-Ours-clause-spares
returns-in-Ours-clause-spares g c = inr (found_spared c.args.id.now c.args.plan.now _ _ _ _ c.in-Ours.is c.sync.ensures.same c.in_ok-finding.ensures.finds)
