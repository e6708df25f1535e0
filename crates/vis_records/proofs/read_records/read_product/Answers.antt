use Rattle.std.proofs.Common.{length, ap, sym, subst, ◌∙◌}
use Rattle.vis_records.specs.Parts.{StopsBy}
use Rattle.vis_records.proofs.PartLemmas.{in_turn-none, turns-next, turns-stop, turns-all}
use Rattle.vis_records.proofs.FieldLemmas.{passed-on}
use Rattle.vis_records.proofs.RecordReading.{product-part}
use Rattle.vis_records.proofs.read_records.read_product.Goals as goal

pub loop-i-init : goal.loop-i-init
loop-i-init c = in_turn-none _ _ _

pub returns-in_err-read_record-clause-stops : goal.returns-in_err-read_record-clause-stops
returns-in_err-read_record-clause-stops c =
    passed-on _ c.from_residual.result c.in_err-read_record.field-0.0 c.from_residual.ensures.1
    (subst (λ part. StopsBy part c.in_err-read_record.field-0.0) (product-part c.args.lags c.args.number c.args.m c.args.product c.args.scan.now _ c.args.cells.now.items c.args.rest.now (ap length c.items-count.ensures))
    (turns-stop _ _ _ (length c.items-count.result.now) c.loop-i.i c.loop-i-test.true c.loop-i.invariant c.in_err-read_record.ensures.stops))

pub loop-i-preserved : goal.loop-i-preserved
loop-i-preserved c =
    turns-next _ _ _ (length c.items-count.result.now) c.loop-i.i c.loop-i-test.true c.loop-i.invariant c.in_ok-read_record.ensures.took

pub returns-clause-took : goal.returns-clause-took
returns-clause-took c =
    sym (product-part c.args.lags c.args.number c.args.m c.args.product c.args.scan.now _ c.args.cells.now.items c.args.rest.now (ap length c.items-count.ensures))
    ∙ turns-all _ _ _ (length c.items-count.result.now) c.loop-i.i c.loop-i-test.false c.loop-i.invariant
