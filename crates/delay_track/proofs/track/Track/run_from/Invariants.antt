use Rattle.std.proofs.Common.{◌-◌, ◌≡◌, ◌≤◌, ◌<◌, ℕ}
use Rattle.corr_model.specs.Delay.{whole_at}
use Rattle.delay_track.specs.Track.{model_of}
use Rattle.delay_track.specs.Piece.{IsPiece}
use Rattle.delay_track.proofs.track.Track.run_from.Given as goal

abbrev pub invariant-loop-end : goal.invariant-loop-end
invariant-loop-end l = record {
  after : l.from < l.end;
  order : l.end ≤ l.to;
  within : l.piece.to ≤ l.to;
  line : IsPiece (model_of l.self) l.piece;
  value : l.whole ≡ whole_at (model_of l.self) l.from;
  same : (n : ℕ) → l.from ≤ n → n < l.end → whole_at (model_of l.self) n ≡ whole_at (model_of l.self) l.from;
}

abbrev pub decreases-loop-end : goal.decreases-loop-end
decreases-loop-end l = l.to - l.end
