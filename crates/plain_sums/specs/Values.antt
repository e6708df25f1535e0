-- The values that the streams of a scan's stations hold.
use Rattle.std.specs.Prelude.{ℕ, ◌==◌, option_and_then, slice_get}
use Rattle.std.specs.List.{position}
use Rattle.corr_model.specs.Cell.{Samples}
use Rattle.station_stream.specs.Stream.{StreamFields, windowed}
use Rattle.plain_sums.specs.declared.values.ScanValues.{ScanValues}

-- the value of a station's channel, none of a station that has no part in the scan
abbrev pub values_of : ScanValues → Samples
values_of v station chan n =
    option_and_then (λ i. option_and_then (λ (s : StreamFields). windowed s chan n) (slice_get v.streams.items i))
    (position (λ (number : ℕ). number == station) v.stations.items)
