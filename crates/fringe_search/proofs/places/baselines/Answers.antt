use Rattle.std.proofs.Common.{arith}
use Rattle.fringe_search.proofs.Turns.{scan_good, items_counted}
use Rattle.fringe_search.proofs.places.baselines.Goals as goal

pub returns-clause-value : goal.returns-clause-value
returns-clause-value c = omega (arith, items_counted c.args.head.now c.args.number c.scan-scan.result.now c.items-items.result.now c.items-items.ensures c.scan-scan.ensures.is, (scan_good c.args.head.now c.args.number c.scan-scan.ensures.head c.requires).baselines)

pub overflow_cast-result : goal.overflow_cast-result
overflow_cast-result c = omega (arith, items_counted c.args.head.now c.args.number c.scan-scan.result.now c.items-items.result.now c.items-items.ensures c.scan-scan.ensures.is, (scan_good c.args.head.now c.args.number c.scan-scan.ensures.head c.requires).baselines)

pub returns-clause-some : goal.returns-clause-some
returns-clause-some c = omega (arith, items_counted c.args.head.now c.args.number c.scan-scan.result.now c.items-items.result.now c.items-items.ensures c.scan-scan.ensures.is, (scan_good c.args.head.now c.args.number c.scan-scan.ensures.head c.requires).some_baseline)

pub returns-clause-few : goal.returns-clause-few
returns-clause-few c = omega (arith, items_counted c.args.head.now c.args.number c.scan-scan.result.now c.items-items.result.now c.items-items.ensures c.scan-scan.ensures.is, (scan_good c.args.head.now c.args.number c.scan-scan.ensures.head c.requires).baselines)
