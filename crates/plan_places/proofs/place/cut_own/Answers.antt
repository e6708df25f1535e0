use Rattle.std.proofs.Common.{◌∙◌, sym}
use Rattle.plan_places.specs.Places.{place_at}
use Rattle.plan_places.proofs.OwnWalk.{cut-in-own}
use Rattle.plan_places.proofs.place.cut_own.Goals as goal

pub returns-clause-cut : goal.returns-clause-cut
returns-clause-cut c =
    sym (cut-in-own c.args.plan.now (place_at c.args.at.now) c.epoch_with-own.result c.requires c.epoch_with-own.ensures.inside
    c.epoch_with-own.ensures.own c.epoch_with-own.ensures.up_to c.epoch_with-own.ensures.has)
    ∙ c.cut.ensures.cut
