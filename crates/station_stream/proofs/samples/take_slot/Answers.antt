use Rattle.std.proofs.Common.{ap, length}
use Rattle.vdif_frame.specs.Shape.{ShapeFields}
use Rattle.station_stream.proofs.LevelLemmas.{IsWidth-of, bit_of-slot, IsTaken-array}
use Rattle.station_stream.proofs.samples.take_slot.Goals as goal

pub take_levels-requires-clause-width : goal.take_levels-requires-clause-width
take_levels-requires-clause-width c =
    IsWidth-of c.args.shape.now c.shape.inside.bits c.head_bytes.ensures.invariant (ap (λ (s : ShapeFields). s.bits) c.shape.view_is)

pub take_levels-requires-clause-inside : goal.take_levels-requires-clause-inside
take_levels-requires-clause-inside c =
    bit_of-slot c.args.shape.now c.args.slot.now c.head_bytes.result c.shape.inside.bits c.chans.result c.args.index c.args.at (length c.args.codes.now) c.head_bytes.ensures.invariant
    c.requires.slot c.head_bytes.ensures.value (ap (λ (s : ShapeFields). s.bits) c.shape.view_is) c.chans.ensures.value c.requires.index c.requires.room

pub returns : goal.returns
returns c =
    IsTaken-array c.args.shape.now c.args.slot.now c.take_levels.new.codes c.head_bytes.result c.shape.inside.bits c.chans.result c.args.index c.args.at (length c.args.codes.now)
    c.head_bytes.ensures.value (ap (λ (s : ShapeFields). s.bits) c.shape.view_is) c.chans.ensures.value c.take_levels.ensures
