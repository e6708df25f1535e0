use Rattle.std.specs.List.{position}
use Rattle.std.proofs.Common.{◌==◌, Bool, length, sym, ap, ◌∙◌}
use Rattle.job_plan.specs.declared.plan.StayPlan.{StayPlan}
use Rattle.run_sums.proofs.PlaceLemmas.{position_or_len-None}
use Rattle.run_sums.proofs.pairs.place.Goals as goal

pub returns-in-None : goal.returns-in-None
returns-in-None c =
    let is_station : StayPlan → Bool = λ stay. stay.station == c.args.station in
    ap length c.items-stays.ensures
    ∙ position_or_len-None is_station c.args.scan.now.stays (sym (c.place_of.ensures ∙ ap (position is_station) c.items-stays.ensures) ∙ c.in-None.is)
