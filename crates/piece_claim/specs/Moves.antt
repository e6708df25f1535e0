-- What each event needs, and what it does.
use Rattle.std.specs.Prelude.{◌≡◌, ℕ, ◌+◌, ◌-◌, ◌*◌, ◌/◌, ◌<◌, ◌≤◌, ◌==◌, nat_lt, List, [], ◌∷◌, ◌++◌, true, false, Option, Some, None, if◌then◌else◌, length, slice_index, slice_set}
use Rattle.piece_claim.specs.declared.sizes.Sizes.{Sizes}
use Rattle.piece_claim.specs.State.{Piece, Seat, BoardState, piece, seat, board, pieces, new_seat, ended_seat, seat_at}

-- Draw: a seat that is live, has nothing in hand and is not done
pub record CanDraw (v : Seat) : Type 0 where
  pub live : v.ended ≡ false
  pub free : v.hand ≡ None
  pub busy : v.done ≡ false

-- takes the number in hand where there is a piece of it, and else is done
abbrev pub holding : Seat → ℕ → Seat
holding v n = seat v.shares v.finished (Some (piece n [])) v.done v.ended

abbrev pub finishing : Seat → Seat
finishing v = seat v.shares v.finished v.hand true v.ended

abbrev pub drawn : ℕ → Seat → ℕ → Seat
drawn count v n = if nat_lt n count then holding v n else finishing v

abbrev pub after_draw : BoardState → ℕ → BoardState
after_draw b i = board b.sizes (b.next + 1) b.words (slice_set b.seats i (drawn (pieces b.sizes) (seat_at b i) b.next))

-- Post: a live seat has a piece in hand that lacks amounts, and the amount is within the bound
abbrev pub LacksAmounts : ℕ → Option Piece → Type 0
LacksAmounts width None = ⊥
LacksAmounts width (Some p) = length p.amounts < width

pub record CanPost (k : Sizes) (v : Seat) (amount : ℕ) : Type 0 where
  pub live : v.ended ≡ false
  pub has : LacksAmounts k.width v.hand
  pub within : amount ≤ k.bound

-- with all its amounts the piece is finished, with fewer it is in hand
abbrev pub with_piece : ℕ → Seat → Piece → Seat
with_piece width v p =
    if length p.amounts == width
    then seat v.shares (v.finished ++ p ∷ []) None v.done v.ended
    else seat v.shares v.finished (Some p) v.done v.ended

abbrev pub grown : Piece → ℕ → Piece
grown p amount = piece p.number (p.amounts ++ amount ∷ [])

abbrev pub posted_for : ℕ → Seat → Option Piece → ℕ → Seat
posted_for width v None amount = v
posted_for width v (Some p) amount = with_piece width v (grown p amount)

abbrev pub posted : ℕ → Seat → ℕ → Seat
posted width v amount = posted_for width v v.hand amount

-- the sum to which a piece's next amount is added
abbrev pub word_of : Sizes → Option Piece → ℕ
word_of k None = 0
word_of k (Some p) = p.number / k.per_group * k.width + length p.amounts

abbrev pub added : List ℕ → ℕ → ℕ → List ℕ
added words w amount = slice_set words w (slice_index words w + amount)

abbrev pub after_post : BoardState → ℕ → ℕ → BoardState
after_post b i amount =
    board b.sizes b.next (added b.words (word_of b.sizes (seat_at b i).hand) amount)
    (slice_set b.seats i (posted b.sizes.width (seat_at b i) amount))

-- Split: a seat that could draw, has finished nothing and has two shares or more
pub record CanSplit (v : Seat) : Type 0 where
  pub live : v.ended ≡ false
  pub shares : 1 < v.shares
  pub free : v.hand ≡ None
  pub busy : v.done ≡ false
  pub fresh : v.finished ≡ []

abbrev pub one_less : Seat → Seat
one_less v = seat (v.shares - 1) v.finished v.hand v.done v.ended

abbrev pub after_split : BoardState → ℕ → BoardState
after_split b i = board b.sizes b.next b.words (slice_set b.seats i (one_less (seat_at b i)) ++ new_seat 1 ∷ [])

-- Join: two live seats that are done
pub record CanJoin (v w : Seat) : Type 0 where
  pub live : v.ended ≡ false
  pub other_live : w.ended ≡ false
  pub over : v.done ≡ true
  pub other_over : w.done ≡ true

abbrev pub joined : Seat → Seat → Seat
joined v w = seat (v.shares + w.shares) (v.finished ++ w.finished) v.hand v.done v.ended

abbrev pub after_join : BoardState → ℕ → ℕ → BoardState
after_join b i j =
    board b.sizes b.next b.words
    (slice_set (slice_set b.seats i (joined (seat_at b i) (seat_at b j))) j ended_seat)
