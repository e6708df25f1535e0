use Rattle.station_stream.proofs.StayFramesLemmas.{IsPartOfStay-of, StandAt-read, slice_get-item}
use Rattle.station_stream.proofs.stay_frames.StayFrames.part.Goals as goal

pub part_of-requires-clause-modelled : goal.part_of-requires-clause-modelled
part_of-requires-clause-modelled c =
    c.requires.scan.modelled c.args.stay.now.station c.index-items-number.result
    (slice_get-item c.items.result.now c.args.plan.now.stations c.args.stay.now.station c.index-items-number.result c.items.ensures c.requires.stay.station c.index-items-number.is)
    c.requires.stands

pub part_of-requires-clause-each : goal.part_of-requires-clause-each
part_of-requires-clause-each c =
    let at = StandAt-read c.args.plan.now c.args.recordings.now c.args.stay.now.station c.index-items-number.result c.index-recordings-number.result c.items.result.now
    c.items.ensures c.requires.stay.station c.requires.named c.index-items-number.is c.index-recordings-number.is in
    rw c.deref.ensures.value (c.requires.held.of _ _ at.station at.recording).each

pub part_of-requires-clause-chans : goal.part_of-requires-clause-chans
part_of-requires-clause-chans c =
    let at = StandAt-read c.args.plan.now c.args.recordings.now c.args.stay.now.station c.index-items-number.result c.index-recordings-number.result c.items.result.now
    c.items.ensures c.requires.stay.station c.requires.named c.index-items-number.is c.index-recordings-number.is in
    rw c.deref.ensures.value (c.requires.held.of _ _ at.station at.recording).chans

pub part_of-requires-clause-ranges : goal.part_of-requires-clause-ranges
part_of-requires-clause-ranges c =
    let at = StandAt-read c.args.plan.now c.args.recordings.now c.args.stay.now.station c.index-items-number.result c.index-recordings-number.result c.items.result.now
    c.items.ensures c.requires.stay.station c.requires.named c.index-items-number.is c.index-recordings-number.is in
    rw c.deref.ensures.value (c.requires.held.of _ _ at.station at.recording).ranges

pub returns : goal.returns
returns c =
    let at = StandAt-read c.args.plan.now c.args.recordings.now c.args.stay.now.station c.index-items-number.result c.index-recordings-number.result c.items.result.now
    c.items.ensures c.requires.stay.station c.requires.named c.index-items-number.is c.index-recordings-number.is in
    IsPartOfStay-of c.args.plan.now c.args.scan.now c.args.stay.now c.args.recordings.now c.part_of.result _ _ at.station at.recording c.part_of.ensures
