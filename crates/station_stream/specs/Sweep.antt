-- Stretches of a scan whose recorded samples lie close together.
use Rattle.std.specs.Prelude.{◌≡◌, ℕ, ◌≤◌, ◌<◌, ℤ, pos, ◌+ℤ◌, ◌≤ℤ◌, ◌<ℤ◌}
use Rattle.corr_model.specs.Delay.{whole_at}
use Rattle.delay_track.specs.declared.track.Track.{Track}
use Rattle.delay_track.specs.Track.{model_of}
use Rattle.station_stream.specs.declared.sweep.Sweep.{Sweep}

-- the recording's sample at sample n of the scan: as many on as the whole delay says
abbrev pub recorded_at : Track → ℕ → ℤ
recorded_at track n = pos n +ℤ whole_at (model_of track) n

-- those at the samples from `from` up to, not including, `to` lie from `first` up to, not including, `last`
abbrev pub LieIn : Track → ℕ → ℕ → ℤ → ℤ → Type 0
LieIn track from to first last =
    (n : ℕ) → from ≤ n → n < to → (first ≤ℤ recorded_at track n) × (recorded_at track n <ℤ last)

-- a sweep from `from` on and before `to`
pub record IsSweep (track : Track) (from to : ℕ) (s : Sweep) : Type 0 where
  pub begins : s.from ≡ from
  pub some : from < s.to
  pub within : s.to ≤ to
  pub lie : LieIn track from s.to s.first s.last
