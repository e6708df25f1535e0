-- Values whose components have a magnitude of at most 15.
use Rattle.std.specs.Prelude.{ℕ, ◌*◌, ◌≤◌, ℤ, IfSome}
use Rattle.corr_model.specs.Cell.{Samples}
use Rattle.station_stream.specs.Stream.{StreamFields, windowed, AreLevelled}
use Rattle.epoch_run.specs.Planes.{planed}
use Rattle.epoch_run.specs.Sums.{IsSummed}
use Rattle.epoch_run.specs.Binned.{IsPhase}
use Rattle.epoch_run.specs.Amounts.{WorkFields, cells_of}

-- each value of a stream is such
abbrev pub IsLevelled : StreamFields → Type 0
IsLevelled s = (chan : ℕ) (n : ℤ) → IfSome (windowed s chan n) AreLevelled

-- each value of a scan is such
abbrev pub AllLevelled : Samples → Type 0
AllLevelled z = (station chan : ℕ) (n : ℤ) → IfSome (z station chan n) AreLevelled

-- what is true of all that the workers read
pub record IsWork (w : WorkFields) : Type 0 where
  pub summed : IsSummed w.pairs w.samples w.epoch w.piece
  pub levelled : AllLevelled (planed w.planes)
  pub phase : IfSome w.phase (IsPhase w.samples)
  pub room : w.epoch.products * w.epoch.baselines * cells_of w ≤ 4194304
