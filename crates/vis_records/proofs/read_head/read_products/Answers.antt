use Rattle.vis_records.proofs.PartLemmas.{stops-first, turns-stop}
use Rattle.vis_records.proofs.FieldLemmas.{passed-on}
use Rattle.vis_records.proofs.read_head.read_products.Goals as goal

pub returns-in_err-one-clause-stops : goal.returns-in_err-one-clause-stops
returns-in_err-one-clause-stops c =
    passed-on _ c.from_residual.result c.in_err-one.field-0.0 c.from_residual.ensures.1
    (turns-stop _ _ _ c.args.count c.loop-i.i c.loop-i-test.true c.loop-i.invariant (stops-first _ c.in_err-one.ensures.stops))
