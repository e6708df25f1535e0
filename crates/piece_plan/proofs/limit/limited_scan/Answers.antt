use Rattle.std.proofs.Common.{[], arith}
use Rattle.piece_plan.specs.Epochs.{job_sizes}
use Rattle.piece_plan.proofs.LimitLemmas.{kept-end, kept-few, limited_scan-inside}
use Rattle.piece_plan.proofs.limit.limited_scan.Goals as goal

pub overflow_add-result : goal.overflow_add-result
overflow_add-result c =
    let few = kept-few c.args.size.now.samples c.args.size.now.first c.args.integration c.args.to
    c.requires.integration c.requires.first (c.requires.within [] 0 0) in
    omega (arith, few, c.if-from-to.true, c.requires.samples, c.requires.longest)

pub overflow_add-size : goal.overflow_add-size
overflow_add-size c =
    let few = kept-few c.args.size.now.samples c.args.size.now.first c.args.integration c.args.to
    c.requires.integration c.requires.first (c.requires.within [] 0 0) in
    omega (arith, few, c.requires.samples, c.requires.longest)

pub overflow_mul-size : goal.overflow_mul-size
overflow_mul-size c =
    let end = kept-end c.args.size.now.samples c.args.size.now.first c.args.integration c.args.to
    c.requires.integration c.requires.first (c.requires.within [] 0 0) in
    omega (arith, end, c.requires.samples, c.requires.longest)

pub returns-then-from-to : goal.returns-then-from-to
returns-then-from-to c scans epoch lags =
    limited_scan-inside (job_sizes scans c.args.integration epoch lags) c.args.size.now c.args.from c.args.to c.min.result
    c.if-from-to.true (c.requires.within scans epoch lags) c.min.ensures
