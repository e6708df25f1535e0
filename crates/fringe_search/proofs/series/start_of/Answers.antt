use Rattle.std.proofs.Common.{◌*◌, ap₂, arith}
use Rattle.fringe_search.proofs.Counting.{start_within, few_records}
use Rattle.fringe_search.proofs.series.start_of.Goals as goal

pub overflow_mul-result : goal.overflow_mul-result
overflow_mul-result c =
    let same = ap₂ (λ x y. x * y) c.lags.ensures c.records_before.ensures in
    omega (arith, same, start_within c.args.head.now c.args.scan c.requires.scan)

pub returns-clause-value : goal.returns-clause-value
returns-clause-value c = ap₂ (λ x y. x * y) c.lags.ensures c.records_before.ensures

pub returns-clause-within : goal.returns-clause-within
returns-clause-within c =
    let same = ap₂ (λ x y. x * y) c.lags.ensures c.records_before.ensures in
    omega (arith, same, start_within c.args.head.now c.args.scan c.requires.scan)

pub records_before-requires-clause-few : goal.records_before-requires-clause-few
records_before-requires-clause-few c = few_records c.args.head.now c.args.count c.requires.some c.requires.count (omega arith)
