use Rattle.plan_places.specs.Places.{place_at}
use Rattle.plan_places.proofs.CutLemmas.{cut-by-last, cut-IsEpoch}
use Rattle.plan_places.proofs.place.cut.Goals as goal

pub returns-clause-cut : goal.returns-clause-cut
returns-clause-cut c =
    cut-by-last c.args.plan.now c.args.epoch (place_at c.args.at.now) c.integration_last.result.1 c.min.result c.requires.place c.integration_last.ensures.last c.min.ensures

pub returns-clause-fits : goal.returns-clause-fits
returns-clause-fits c =
    cut-IsEpoch c.args.plan.now c.args.epoch (place_at c.args.at.now) _ c.requires.place c.requires.some c.requires.short
    (cut-by-last c.args.plan.now c.args.epoch (place_at c.args.at.now) c.integration_last.result.1 c.min.result c.requires.place c.integration_last.ensures.last c.min.ensures)
