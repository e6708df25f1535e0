-- Streams as the stations of a scan.
use Rattle.std.specs.Prelude.{List, option_and_then, slice_get}
use Rattle.corr_model.specs.Cell.{Samples}
use Rattle.station_stream.specs.Stream.{StreamFields, windowed}

-- the value of a channel of the stream at a place, none outside its window and past the last stream
abbrev pub streamed : List StreamFields → Samples
streamed streams station chan n = option_and_then (λ (s : StreamFields). windowed s chan n) (slice_get streams station)
