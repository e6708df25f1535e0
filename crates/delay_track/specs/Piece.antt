-- A piece of a scan, in which the delay lies on the line between two knots.
use Rattle.std.specs.Prelude.{◌≡◌, ℕ, ◌+◌, ◌-◌, ◌≤◌, ◌<◌, ℤ}
use Rattle.corr_model.specs.Delay.{DelayModel, between, delay_at}
use Rattle.delay_track.specs.declared.piece.Piece.{Piece}

-- the delay at sample i on the line of a piece
abbrev pub delay_on : Piece → ℕ → ℤ
delay_on p i = between p.line.first p.line.next (p.past + (i - p.from)) p.line.knot

-- at each sample of the piece the delay of the model is the one on the line
abbrev pub IsPiece : DelayModel → Piece → Type 0
IsPiece m p = (i : ℕ) → p.from ≤ i → i < p.to → delay_at m i ≡ delay_on p i
