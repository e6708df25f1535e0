use Rattle.std.proofs.Common.{◌≡◌, ◌<◌, ℕ, None, length, get_or}
use Rattle.std.specs.List.{All}
use Rattle.std.specs.Option.{ForSome}
use Rattle.station_stream.specs.Ranges.{IsChanOf}
use Rattle.station_stream.specs.StayParts.{chan_of}
use Rattle.station_stream.proofs.stay_part.chans_of.Given as goal

abbrev pub invariant-loop-i : goal.invariant-loop-i
invariant-loop-i l = record {
  count : length l.chans.items ≡ l.i;
  each : (k : ℕ) → k < l.i → get_or l.chans.items k None ≡ chan_of (get_or l.recorded k None) (get_or l.bands k None);
  ranges : All (λ chan. ForSome chan (IsChanOf l.station.shape)) l.chans.items;
}
