use Rattle.std.proofs.Common.{◌-◌, ◌≡◌, ◌≤◌, ◌<◌, ℕ}
use Rattle.delay_track.specs.Track.{model_of}
use Rattle.pulsar_bins.specs.Bin.{bin_at}
use Rattle.delay_track.specs.Piece.{IsPiece}
use Rattle.pulsar_bins.proofs.runs.run_from.Given as goal

abbrev pub invariant-loop-end : goal.invariant-loop-end
invariant-loop-end l = record {
  after : l.from < l.end;
  order : l.end ≤ l.to;
  within : l.piece.to ≤ l.to;
  line : IsPiece (model_of l.track) l.piece;
  value : l.bin ≡ bin_at l.count (model_of l.track) l.from;
  same : (n : ℕ) → l.from ≤ n → n < l.end → bin_at l.count (model_of l.track) n ≡ bin_at l.count (model_of l.track) l.from;
}

abbrev pub decreases-loop-end : goal.decreases-loop-end
decreases-loop-end l = l.to - l.end
