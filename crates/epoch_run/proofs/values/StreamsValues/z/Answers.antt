use Rattle.std.specs.Prelude.{slice_get}
use Rattle.std.proofs.Common.{◌≡◌, Some, ap, sym, refl, ◌∙◌, length, w64}
use Rattle.std.proofs.lemmas.Int.{to_z-of_z}
use Rattle.std.proofs.lemmas.Option.{slice_get_read}
use Rattle.station_stream.specs.Stream.{windowed}
use Rattle.epoch_run.proofs.Streams.{streamed-there, streamed-past}
use Rattle.epoch_run.proofs.values.StreamsValues.z.Goals as goal

pub returns-in-Some-clause-value : goal.returns-in-Some-clause-value
returns-in-Some-clause-value c =
    let streams = c.args.self.now.streams.now in
    let s = c.in-Some.stream.now in
    let found = c.in-Some.ensures.lookup in
    let there : slice_get streams c.args.station ≡ Some s =
    slice_get_read streams (length streams) c.args.station s refl found.3.0 found.1 in
    c.value.ensures.value
    ∙ ap (windowed s c.args.chan) (to_z-of_z w64 c.args.n c.ranges.n)
    ∙ sym (streamed-there streams c.args.station c.args.chan c.args.n s there)

pub returns-in-None-clause-value : goal.returns-in-None-clause-value
returns-in-None-clause-value c =
    sym (streamed-past c.args.self.now.streams.now c.args.station c.args.chan c.args.n c.in-None.ensures.lookup.3)
