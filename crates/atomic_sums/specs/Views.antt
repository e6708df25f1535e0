-- What a seat of a board knows: the board's sizes and its own state. And what each step tells it.
use Rattle.std.specs.Prelude.{◌≡◌, ℕ, ◌<◌, ◌≤◌, List, Option, Some, None, nat_lt, if◌then◌else◌}
use Rattle.std.specs.List.{sum_by}
use Rattle.atomic_table.specs.Table.{Me, Step}
use Rattle.piece_claim.specs.declared.sizes.Sizes.{Sizes}
use Rattle.piece_claim.specs.State.{Piece, Seat, pieces, new_seat, ended_seat, has_number}
use Rattle.piece_claim.specs.Moves.{drawn, posted, one_less, joined}

pub record SeatView : Type 0 where
  pub sizes : Sizes
  pub seat : Seat
  -- the number past the last piece that the seat drew, once it has
  pub last : Option ℕ

abbrev pub seen_by : Sizes → Seat → Option ℕ → SeatView
seen_by k v last = record { sizes = k; seat = v; last = last }

-- the first seat has all shares
abbrev pub first_view : Sizes → SeatView
first_view k = seen_by k (new_seat k.shares) None

-- a split leaves one share less here, and makes a seat of one share
abbrev pub left_view : SeatView → SeatView
left_view v = seen_by v.sizes (one_less v.seat) v.last

abbrev pub right_view : SeatView → SeatView
right_view v = seen_by v.sizes (new_seat 1) None

abbrev pub joined_view : SeatView → SeatView → SeatView
joined_view v w = seen_by v.sizes (joined v.seat w.seat) v.last

-- every seat that was joined to another has this view
abbrev pub no_sizes : Sizes
no_sizes = record { groups = 0; per_group = 0; width = 0; bound = 0; shares = 0 }

abbrev pub spent_view : SeatView
spent_view = seen_by no_sizes ended_seat None

-- how often a piece of that number stands in a list
abbrev pub times_in : ℕ → List Piece → ℕ
times_in n ps = sum_by (has_number n) ps

abbrev pub last_after : ℕ → Option ℕ → ℕ → Option ℕ
last_after count last n = if nat_lt n count then last else Some n

abbrev pub Sat : Type 0
Sat = Me (Unit {0}) SeatView

-- Draw: of the number found, the seat's new view, and that the number is none of its finished pieces
abbrev pub Draws : Step (Unit {0}) → Sat → ℕ → Sat → Type 0
Draws st me n after =
    (after ≡ (seen_by me.0.sizes (drawn (pieces me.0.sizes) me.0.seat n) (last_after (pieces me.0.sizes) me.0.last n), me.1))
    × (n < pieces me.0.sizes → times_in n me.0.seat.finished ≡ 0)

-- Post: the operand is the next amount of the piece in hand
abbrev pub Posts : Step (Unit {0}) → Sat → ℕ → Sat → Type 0
Posts st me n after = after ≡ (seen_by me.0.sizes (posted me.0.sizes.width me.0.seat st.first) me.0.last, me.1)

-- a load that changes nothing tells that no piece stands twice in the seat
abbrev pub Learns : Step (Unit {0}) → Sat → ℕ → Sat → Type 0
Learns st me n after = (after ≡ me) × ((x : ℕ) → times_in x me.0.seat.finished ≤ 1)
