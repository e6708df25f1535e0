use Rattle.std.proofs.Common.{refl}
use Rattle.station_stream.specs.Part.{timing_of}
use Rattle.station_stream.proofs.PlaceLemmas.{frame_place-of}
use Rattle.station_stream.proofs.place.FramePlace.of.Goals as goal

pub returns : goal.returns
returns c =
    frame_place-of (timing_of c.args.part.now) c.args.part.now.track.second c.args.p c.div_euclid.result c.rem_euclid-within.result c.from.result c.from-rate.result c.samples_per_frame-size.result
    c.requires c.args.part.now.track.is_model.start c.args.part.now.track.is_model.some_rate c.args.part.now.track.is_model.rate c.samples_per_frame-size.ensures.some
    refl c.from-rate.ensures c.samples_per_frame-size.ensures.value
    c.div_euclid.ensures c.rem_euclid-within.ensures.value c.from.ensures
