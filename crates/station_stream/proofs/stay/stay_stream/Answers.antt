use Rattle.std.proofs.Common.{length, get_or, ap, ◌∙◌, arith}
use Rattle.std.proofs.lemmas.Int.{ints}
use Rattle.frame_index.proofs.ToldLemmas.{WhereTold-weaker}
use Rattle.job_plan.specs.declared.plan.StationPlan.{StationPlan}
use Rattle.station_stream.proofs.StayPartLemmas.{part_value-stay_value}
use Rattle.station_stream.proofs.StayLemmas.{windowed-inside}
use Rattle.station_stream.proofs.StayFramesLemmas.{IsIndexed-stay, StandAt-read, slice_get-item}
use Rattle.station_stream.proofs.stay.stay_stream.Goals as goal

pub part_of-part-requires-clause-modelled : goal.part_of-part-requires-clause-modelled
part_of-part-requires-clause-modelled g c =
    c.requires.scan.modelled c.args.stay.now.station c.index-items-number.result
    (slice_get-item c.items.result.now c.args.plan.now.stations c.args.stay.now.station c.index-items-number.result c.items.ensures c.requires.stay.station c.index-items-number.is)
    c.requires.stands

pub load_in-requires-clause-indexed : goal.load_in-requires-clause-indexed
load_in-requires-clause-indexed g c =
    IsIndexed-stay (g.F.Shelf.told c.args.shelf.now) c.args.plan.now c.args.scan.now c.args.stay.now c.args.recordings.now _ _ c.part_of-part.result
    (StandAt-read c.args.plan.now c.args.recordings.now c.args.stay.now.station c.index-items-number.result c.index-recordings-number.result c.items.result.now
    c.items.ensures c.requires.stay.station c.requires.named c.index-items-number.is c.index-recordings-number.is)
    c.part_of-part.ensures c.requires.recorded

pub returns-clause-values : goal.returns-clause-values
returns-clause-values g c =
    let at = StandAt-read c.args.plan.now c.args.recordings.now c.args.stay.now.station c.index-items-number.result c.index-recordings-number.result c.items.result.now
    c.items.ensures c.requires.stay.station c.requires.named c.index-items-number.is c.index-recordings-number.is in
    WhereTold-weaker (g.F.Shelf.told c.args.shelf.now) _ _
    (λ files values chan n begun under. windowed-inside c.in_ok-stream.stream c.args.from c.args.to chan n
    (record { begin = c.in_ok-stream.ensures.window.0 ∙ omega (arith, ints); end = c.in_ok-stream.ensures.window.1.0 ∙ omega (arith, ints) }) begun under
    ∙ values chan n (omega (arith, ints)) (omega (arith, ints))
    ∙ part_value-stay_value files c.args.plan.now c.args.scan.now c.index-items-number.result c.args.stay.now c.index-recordings-number.result c.part_of-part.result at.station
    (c.requires.named.named c.args.stay.now.station _ _ at.station at.recording) c.part_of-part.ensures chan n)
    c.in_ok-stream.ensures.values

pub returns-clause-window : goal.returns-clause-window
returns-clause-window g c =
    record { begin = c.in_ok-stream.ensures.window.0 ∙ omega (arith, ints); end = c.in_ok-stream.ensures.window.1.0 ∙ omega (arith, ints) }

pub returns-clause-chans : goal.returns-clause-chans
returns-clause-chans g c =
    let number = c.args.stay.now.station in
    let station = c.index-items-number.result in
    c.in_ok-stream.ensures.window.1.1 ∙ c.part_of-part.ensures.each
    ∙ ap (λ (s : StationPlan). length s.chans) (c.index-items-number.is ∙ ap (λ stations. get_or stations number station) c.items.ensures)
    ∙ (c.requires.plan.stations number station c.requires.stay.station).chans
