-- The values of streams, and that they are small.
use Rattle.std.specs.Prelude.{slice_get, option_and_then}
use Rattle.std.proofs.Common.{◌≡◌, ℕ, zero, suc, ◌≤◌, ℤ, List, [], ◌∷◌, length, Option, Some, None, All, ap}
use Rattle.std.proofs.lemmas.List.Elements.{All-head, All-tail}
use Rattle.std.proofs.lemmas.Option.{slice_get_past}
use Rattle.corr_model.specs.Cell.{Value}
use Rattle.station_stream.specs.Stream.{StreamFields, windowed}
use Rattle.epoch_run.specs.Streamed.{streamed}
use Rattle.epoch_run.specs.Levelled.{AllLevelled, IsLevelled}

-- the value of a stream that is there or not
abbrev value_of : ℕ → ℤ → Option StreamFields → Value
value_of chan n o = option_and_then (λ (s : StreamFields). windowed s chan n) o

pub streamed-there : (streams : List StreamFields) (station chan : ℕ) (n : ℤ) (s : StreamFields)
    → slice_get streams station ≡ Some s → streamed streams station chan n ≡ windowed s chan n
streamed-there streams station chan n s there = ap (value_of chan n) there

pub streamed-past : (streams : List StreamFields) (station chan : ℕ) (n : ℤ)
    → length streams ≤ station → streamed streams station chan n ≡ None
streamed-past streams station chan n past = ap (value_of chan n) (slice_get_past streams station past)

-- where all values of each stream are small, so are those of the scan
pub AllLevelled-streams : (streams : List StreamFields) → All IsLevelled streams → AllLevelled (streamed streams)
AllLevelled-streams [] all station chan n = tt
AllLevelled-streams (s ∷ streams) all zero chan n = All-head IsLevelled s streams all chan n
AllLevelled-streams (s ∷ streams) all (suc station) chan n =
    AllLevelled-streams streams (All-tail IsLevelled s streams all) station chan n
