use Rattle.station_stream.proofs.ThreadLemmas.{place_from-is}
use Rattle.station_stream.proofs.place.place_from.Goals as goal

pub returns : goal.returns
returns c =
    place_from-is c.args.part.now c.args.start c.args.i c.samples_per_frame-size.result c.of.result c.requires.near c.requires.near_frame
    c.samples_per_frame-size.ensures.value c.of.ensures
