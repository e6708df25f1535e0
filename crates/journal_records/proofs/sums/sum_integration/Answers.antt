use Rattle.std.proofs.Common.{◌∙◌, ◌*◌, ℕ, ap, refl}
use Rattle.std.specs.Prelude.{replicate}
use Rattle.std.proofs.lemmas.Result.{on_ok_weaker}
use Rattle.corr_model.specs.Cell.{no_cell}
use Rattle.journal_records.specs.Store.{store}
use Rattle.journal_records.proofs.SumLemmas.{integration-summed, integration-reached}
use Rattle.journal_records.proofs.sums.sum_integration.Goals as goal

pub returns-clause-sums : goal.returns-clause-sums
returns-clause-sums g c =
    on_ok_weaker c.add_epochs.result (λ added. λ number there.
    integration-summed g.D.Disk.seen g.D.Disk.moment g.D.Disk.may_leave c.args.plan.now c.args.epochs.now c.requires.cut.same number c.args.m c.args.scan.now there
    (c.args.m * c.args.plan.now.integration) c.min-to.result refl c.min-to.ensures c.requires.cut.plan_is.some_integration c.requires.inside c.clear.new.cells c.add_epochs.new.sums
    (store c.args.journal.now c.args.disk.now) (store c.add_epochs.new.journal c.add_epochs.new.disk) c.add_epochs.ensures.rests added
    (c.clear.ensures ∙ ap (λ (n : ℕ). replicate n no_cell) c.requires.room))
    c.add_epochs.ensures.added

pub returns-clause-reaches : goal.returns-clause-reaches
returns-clause-reaches g c =
    on_ok_weaker c.add_epochs.result (λ added. λ number there.
    integration-reached g.D.Disk.seen g.D.Disk.moment g.D.Disk.may_leave c.args.plan.now c.args.epochs.now c.requires.cut.same number c.args.m c.args.scan.now there
    (c.args.m * c.args.plan.now.integration) c.min-to.result refl c.min-to.ensures c.requires.cut.plan_is.some_integration c.requires.inside c.clear.new.cells c.add_epochs.new.sums
    (store c.args.journal.now c.args.disk.now) (store c.add_epochs.new.journal c.add_epochs.new.disk) c.add_epochs.ensures.rests added)
    c.add_epochs.ensures.added
