use Rattle.std.proofs.Common.{◌<◌, ◌≤◌, ◌/◌, map, length, ap, subst, ◌∙◌}
use Rattle.std.proofs.lemmas.List.{take_all}
use Rattle.named_list.specs.Named.{names}
use Rattle.vdif_frame.specs.Shape.{samples_per_frame}
use Rattle.job_text.specs.Job.{StationFields}
use Rattle.job_text.specs.Ranges.{shape_of}
use Rattle.job_join.specs.Joined.{station_plan}
use Rattle.job_join.proofs.PlansLemmas.{map-next, All-held}
use Rattle.job_join.proofs.lists.station_plans.Goals as goal

pub station_plan-requires : goal.station_plan-requires
station_plan-requires c =
    All-held (λ (s : StationFields). 0 < c.args.j.now.rate / samples_per_frame (shape_of 0 s)) c.args.j.now.job.now.stations c.stations-station-items.result.now c.loop-station.station-index c.station-item.result c.requires
    c.stations-station-items.ensures.value c.loop-station-test.true c.station-item.is

pub loop-station-preserved : goal.loop-station-preserved
loop-station-preserved c =
    map-next (station_plan c.args.j.now.rate (names c.args.j.now.channels)) c.args.j.now.job.now.stations c.stations-station-items.result.now c.loop-station.station-index c.station-item.result c.in_ok-plan.plan
    c.loop-station.all.items c.push.new.self.items c.stations-station-items.ensures.value c.loop-station-test.true c.station-item.is c.in_ok-plan.ensures c.loop-station.invariant c.in_ok-push.ensures.items

pub returns : goal.returns
returns c =
    c.loop-station.invariant ∙ ap (map (station_plan c.args.j.now.rate (names c.args.j.now.channels)))
    (take_all c.loop-station.station-index c.args.j.now.job.now.stations (subst (λ ss. length ss ≤ c.loop-station.station-index) c.stations-station-items.ensures.value c.loop-station-test.false))
