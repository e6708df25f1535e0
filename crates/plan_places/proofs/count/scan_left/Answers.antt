use Rattle.plan_places.proofs.CountedLemmas.{scan-left-is}
use Rattle.plan_places.proofs.count.scan_left.Goals as goal

pub returns : goal.returns
returns c =
    scan-left-is c.args.plan.now c.args.epoch c.args.i c.scan_last-last.result.0 c.epochs_in.result c.epoch-e.result c.integration_last.result.1 c.scan_last-last.result.1
    c.requires.job c.requires.some c.requires.begin c.epoch-e.ensures.at c.scan_last-last.ensures.at c.integration_last.ensures.last c.scan_last-last.ensures.last
    c.scan_last-last.ensures.of_plan.to c.epochs_in.ensures.count c.epochs_in.ensures.within
