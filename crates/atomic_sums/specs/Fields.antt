-- What the fields of boards, seats and sums stand for, and what is true of them.
use Rattle.std.specs.Prelude.{◌≡◌, ◌+◌, ◌%◌, ◌<◌, ◌^◌, [], All, Some, false, length}
use Rattle.piece_claim.specs.State.{Piece, pieces, sums}
use Rattle.piece_claim.specs.Invariant.{IsSizes}
use Rattle.atomic_sums.specs.Seats.{BoardId, SeatOf}
use Rattle.atomic_sums.specs.Sums.{EpochCells, unbiased}
use Rattle.atomic_sums.specs.declared.board.SumBoard.TheInside.{Inside as BoardFields}
use Rattle.atomic_sums.specs.declared.board.BoardSeat.TheInside.{Inside as SeatFields}
use Rattle.atomic_sums.specs.declared.sums.EpochSums.TheInside.{Inside as SumsFields}

abbrev pub board_id : BoardFields → BoardId
board_id b = record { table = b.table.shared.table_id; sizes = b.sizes }

pub record IsTable (b : BoardFields) : Type 0 where
  pub sizes : IsSizes b.sizes
  pub key : b.table.shared.key ≡ b.sizes
  pub no_slots : b.table.shared.table_id.slots ≡ 0
  pub words : b.table.shared.table_id.words ≡ 1 + sums b.sizes

abbrev pub seat_in : SeatFields → SeatOf
seat_in s = record { board = record { table = s.seat.table_id; sizes = s.seat.me.0.sizes }; state = s.seat.me.0.seat; last = s.seat.me.0.last }

-- the seat is live and carries nothing, and the number is that of a piece in hand, which has no amounts yet
pub record IsSeat (s : SeatFields) : Type 0 where
  pub empty : s.seat.me.1 ≡ []
  pub live : s.seat.me.0.seat.ended ≡ false
  pub hand : (p : Piece) → s.seat.me.0.seat.hand ≡ Some p
      → (p.number ≡ s.number) × (p.amounts ≡ []) × (p.number < pieces s.seat.me.0.sizes)

abbrev pub cells_in : SumsFields → EpochCells
cells_in s = unbiased s.bias record { totals = s.totals.items; pieces = s.pieces }

-- whole cells, and numbers whose differences fit
pub record AreSmall (s : SumsFields) : Type 0 where
  pub thirds : length s.totals.items % 3 ≡ 0
  pub totals : All (λ t. t < 2 ^ 62) s.totals.items
  pub bias : s.bias < 2 ^ 62
