use Rattle.std.proofs.Common.{◌≡◌, ℕ, ◌+◌, ◌-◌, subst, arith}
use Rattle.station_stream.specs.Swept.{AreSwept}
use Rattle.station_stream.proofs.StayFramesLemmas.{AreAlike-of, AreSwept-alike, HoldStay-of, IsIndexed-stay, StandAt-read, slice_get-item}
use Rattle.station_stream.proofs.stay_frames.StayFrames.read.Goals as goal

pub part_of-part-requires-clause-modelled : goal.part_of-part-requires-clause-modelled
part_of-part-requires-clause-modelled g c =
    c.requires.scan.modelled c.args.stay.now.station c.index-items-number.result
    (slice_get-item c.items.result.now c.args.plan.now.stations c.args.stay.now.station c.index-items-number.result c.items.ensures c.requires.stay.station c.index-items-number.is)
    c.requires.stands

pub read_swept-requires-clause-indexed : goal.read_swept-requires-clause-indexed
read_swept-requires-clause-indexed g c =
    IsIndexed-stay (g.F.Shelf.told c.args.shelf.now) c.args.plan.now c.args.scan.now c.args.stay.now c.args.recordings.now _ _ c.part_of-part.result
    (StandAt-read c.args.plan.now c.args.recordings.now c.args.stay.now.station c.index-items-number.result c.index-recordings-number.result c.items.result.now
    c.items.ensures c.requires.stay.station c.requires.named c.index-items-number.is c.index-recordings-number.is)
    c.part_of-part.ensures c.requires.recorded

pub returns-clause-held : goal.returns-clause-held
returns-clause-held g c =
    let told = g.F.Shelf.told c.args.shelf.now in
    let plan = c.args.plan.now in
    let scan = c.args.scan.now in
    let stay = c.args.stay.now in
    let s = c.index-items-number.result in
    let r = c.index-recordings-number.result in
    let at = StandAt-read c.args.plan.now c.args.recordings.now c.args.stay.now.station c.index-items-number.result c.index-recordings-number.result c.items.result.now
    c.items.ensures c.requires.stay.station c.requires.named c.index-items-number.is c.index-recordings-number.is in
    let upto : c.args.from + (c.args.to - c.args.from) ≡ c.args.to = omega (arith, c.requires.order) in
    HoldStay-of told plan scan stay c.args.recordings.now _ s r
    at.station at.recording
    (record {
      each = c.in_ok-chans.ensures.count;
      chans = c.in_ok-chans.ensures.each;
      ranges = c.in_ok-chans.ensures.ranges;
      swept = λ part is. AreSwept-alike told c.part_of-part.result part c.args.from c.args.to c.in_ok-sweeps.sweeps.items
          (AreAlike-of plan scan s stay r c.part_of-part.result part c.part_of-part.ensures is)
          (subst (λ (n : ℕ). AreSwept told c.part_of-part.result c.args.from n c.in_ok-sweeps.sweeps.items) upto c.in_ok-sweeps.ensures.swept);
    })
