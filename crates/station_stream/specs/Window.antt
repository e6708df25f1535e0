-- The values of a channel in a window of a scan.
use Rattle.std.specs.Prelude.{◌≡◌, ℕ, ◌+◌, ◌<◌, pos, List, Option, None, option_and_then, slice_index_or, if◌then◌else◌}
use Rattle.corr_model.specs.Cell.{Value}
use Rattle.job_plan.specs.Values.{is_within}
use Rattle.frame_index.specs.Recording.{Shelved}
use Rattle.station_stream.specs.declared.chan.StationChan.{StationChan}
use Rattle.station_stream.specs.declared.part.StationPart.{StationPart}
use Rattle.station_stream.specs.Part.{chan_value}

-- the value at sample n of a channel that the station may lack, none outside the station's part
abbrev pub value_in : Shelved → StationPart → Option StationChan → ℕ → Value
value_in told p chan n =
    if is_within (pos n) p.from p.to then option_and_then (λ c. chan_value told p c n) chan else None

-- the values of a channel at so many samples from `from` on, none where the list has ended
abbrev pub AreValues : Shelved → StationPart → Option StationChan → ℕ → ℕ → List Value → Type 0
AreValues told p chan from count values =
    (k : ℕ) → k < count → slice_index_or values k None ≡ value_in told p chan (from + k)
