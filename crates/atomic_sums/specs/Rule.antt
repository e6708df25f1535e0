-- The rule of the table: its words and the views of all seats are a state of the machine with its invariant.
use Rattle.std.specs.Prelude.{◌≡◌, ℕ, ◌+◌, List, map, drop, All, length, slice_index, false}
use Rattle.atomic_table.specs.Table.{State}
use Rattle.piece_claim.specs.declared.sizes.Sizes.{Sizes}
use Rattle.piece_claim.specs.State.{BoardState, board, sums}
use Rattle.piece_claim.specs.Invariant.{IsSizes, IsSound}
use Rattle.atomic_sums.specs.Views.{SeatView}

-- word 0 is the number that is drawn next, the others are the sums
abbrev pub state_in : Sizes → List ℕ → List SeatView → BoardState
state_in k words views = board k (slice_index words 0) (drop 1 words) (map (λ v. v.seat) views)

pub record Keeps (k : Sizes) (s : State (Unit {0}) SeatView) : Type 0 where
  pub sizes : IsSizes k
  pub words : length s.words ≡ 1 + sums k
  -- each live seat knows the board's sizes
  pub known : All (λ v. v.seat.ended ≡ false → v.sizes ≡ k) s.views
  -- the six parts
  pub sound : IsSound (state_in k s.words s.views)
