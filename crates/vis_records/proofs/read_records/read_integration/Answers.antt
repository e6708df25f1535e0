use Rattle.std.proofs.Common.{length, refl, sym, subst, ◌∙◌}
use Rattle.vis_records.specs.Heads.{scan_of}
use Rattle.vis_records.specs.Parts.{StopsBy}
use Rattle.vis_records.proofs.PartLemmas.{in_turn-none, turns-next, turns-stop, turns-all}
use Rattle.vis_records.proofs.FieldLemmas.{passed-on}
use Rattle.vis_records.proofs.RecordReading.{integration-part, product-count}
use Rattle.vis_records.proofs.read_records.read_integration.Goals as goal

pub loop-i-init : goal.loop-i-init
loop-i-init c = in_turn-none _ _ _

pub returns-in_err-read_product-clause-stops : goal.returns-in_err-read_product-clause-stops
returns-in_err-read_product-clause-stops c =
    passed-on _ c.from_residual.result c.in_err-read_product.field-0.0 c.from_residual.ensures.1
    (subst (λ part. StopsBy part c.in_err-read_product.field-0.0) (integration-part c.args.head.now.lags c.args.head.now c.args.number (scan_of c.args.scan.now) c.args.m _ c.args.cells.now.items c.args.rest.now (product-count c.args.head.now _ _ refl c.products-count.ensures.products))
    (turns-stop _ _ _ (length c.products-count.result.now) c.loop-i.i c.loop-i-test.true c.loop-i.invariant (rw c.lags.ensures at c.in_err-read_product.ensures.stops)))

pub loop-i-preserved : goal.loop-i-preserved
loop-i-preserved c =
    turns-next _ _ _ (length c.products-count.result.now) c.loop-i.i c.loop-i-test.true c.loop-i.invariant (rw c.lags.ensures at c.in_ok-read_product.ensures.took)

pub returns-clause-took : goal.returns-clause-took
returns-clause-took c =
    sym (integration-part c.args.head.now.lags c.args.head.now c.args.number (scan_of c.args.scan.now) c.args.m _ c.args.cells.now.items c.args.rest.now (product-count c.args.head.now _ _ refl c.products-count.ensures.products))
    ∙ turns-all _ _ _ (length c.products-count.result.now) c.loop-i.i c.loop-i-test.false c.loop-i.invariant
