-- A piece in hand grows by one amount a step.
use Rattle.std.proofs.Common.{◌≡◌, ◌<◌, ℕ, zero, suc, ◌+◌, ◌*◌, ◌/◌, ◌^◌, List, [], ◌∷◌, ◌++◌, length, get_or, drop, take, Option, None, Some, IsSome, if◌then◌else◌, eq-eqb, ne_eqb, refl, sym, ap, ◌∙◌, subst, arith}
use Rattle.std.proofs.lemmas.Nat.{mul-add-lt}
use Rattle.std.proofs.Math.Nat.{div-lt_iff_lt-mul}
use Rattle.std.proofs.lemmas.List.{length-drop, length-take, get_or-drop, take_more}
use mathlib.Core.Option.{some, some-injective, some-ne-none}
use lib.ListN.{get_elem?}
use Rattle.piece_claim.specs.declared.sizes.Sizes.{Sizes}
use Rattle.piece_claim.specs.State.{Piece, Seat, piece, seat, pieces, sums}
use Rattle.piece_claim.specs.Moves.{with_piece, posted}
use Rattle.piece_claim.specs.Invariant.{IsSizes}
use Rattle.atomic_sums.specs.Seats.{BoardId, SeatOf}
use Rattle.atomic_sums.specs.Fields.{board_id, seat_in, IsTable, IsSeat}
use Rattle.atomic_sums.specs.declared.board.SumBoard.TheInside.{Inside as BoardFields}
use Rattle.atomic_sums.specs.declared.board.BoardSeat.TheInside.{Inside as SeatFields}

-- a seat of a board, by its fields
pub record IsOf (s : SeatFields) (b : BoardFields) : Type 0 where
  pub table : s.seat.table_id ≡ b.table.shared.table_id
  pub sizes : s.seat.me.0.sizes ≡ b.sizes

pub of_board : (s : SeatFields) (b : BoardFields) (v : SeatOf) (i : BoardId) → seat_in s ≡ v → board_id b ≡ i → v.board ≡ i → IsOf s b
of_board s b v i e e' of =
    let same : (seat_in s).board ≡ board_id b = ap (λ (u : SeatOf). u.board) e ∙ of ∙ sym e' in
    record { table = ap (λ (j : BoardId). j.table) same; sizes = ap (λ (j : BoardId). j.sizes) same }

abbrev in_hand : Seat → Piece → Seat
in_hand v p = seat v.shares v.finished (Some p) v.done v.ended

-- while amounts are missing the piece is in hand
pub still_held : (width : ℕ) (v : Seat) (p : Piece) → length p.amounts < width → with_piece width v p ≡ in_hand v p
still_held width v p short = ap (λ t. if t then seat v.shares (v.finished ++ p ∷ []) None v.done v.ended else in_hand v p) (ne_eqb (length p.amounts) width (λ e. omega arith))

pub held_already : (width : ℕ) (v : Seat) (p : Piece) → v.hand ≡ Some p → length p.amounts < width → v ≡ with_piece width v p
held_already width v p has short = ap (λ h. seat v.shares v.finished h v.done v.ended) has ∙ sym (still_held width v p short)

-- with its last amount it is finished
pub finished_now : (width : ℕ) (v : Seat) (p : Piece) → length p.amounts ≡ width → with_piece width v p ≡ seat v.shares (v.finished ++ p ∷ []) None v.done v.ended
finished_now width v p full = ap (λ t. if t then seat v.shares (v.finished ++ p ∷ []) None v.done v.ended else in_hand v p) (eq-eqb (length p.amounts) width full)

one_more : (width : ℕ) (v : Seat) (n a : ℕ) (xs : List ℕ) → length xs < width → posted width (with_piece width v (piece n xs)) a ≡ with_piece width v (piece n (xs ++ a ∷ []))
one_more width v n a xs short = ap (λ u. posted width u a) (still_held width v (piece n xs) short)

-- the same where the amounts are the first of all
pub one_of_all : (width : ℕ) (v : Seat) (n i : ℕ) (all : List ℕ) → i < length all → length all ≡ width
    → posted width (with_piece width v (piece n (take i all))) (get_or all i 0) ≡ with_piece width v (piece n (take (i + 1) all))
one_of_all width v n i all before full =
    one_more width v n (get_or all i 0) (take i all) (omega (arith, length-take i all))
    ∙ ap (λ (l : List ℕ). with_piece width v (piece n l)) (sym (take_more all i 0 before))

-- the piece in hand is the one of the number beside the seat
pub held : (o : Option Piece) (n m : ℕ) → IsSome o → ((p : Piece) → o ≡ Some p → (p.number ≡ n) × (p.amounts ≡ []) × (p.number < m)) → (o ≡ Some (piece n [])) × (n < m)
held None n m has tied = absurd (none_is has)
  where
    none_is : IsSome {T = Piece} None → ⊥
    none_is e = cc
held (Some p) n m has tied =
    let t = tied p refl in
    (ap (λ a. Some (piece a p.amounts)) t.0 ∙ ap (λ (l : List ℕ). Some (piece n l)) t.1, subst (λ a. a < m) t.0 t.2)

-- the first sum of a piece's group
pub base_in : (k : Sizes) (n : ℕ) → IsSizes k → n < pieces k → n / k.per_group * k.width < 2 ^ 32
base_in k n sizes lt = omega (arith, mul-add-lt (n / k.per_group) k.width 0 k.groups ((div-lt_iff_lt-mul sizes.per_group).1 lt) sizes.width, sizes.words)

pub place_in : (k : Sizes) (n i : ℕ) → IsSizes k → n < pieces k → i < k.width → n / k.per_group * k.width + i < sums k
place_in k n i sizes lt less = omega (arith, mul-add-lt (n / k.per_group) k.width i k.groups ((div-lt_iff_lt-mul sizes.per_group).1 lt) less)

-- the same by the fields of a seat, of what callers see
pub held_of : (s : SeatFields) (v : SeatOf) → seat_in s ≡ v → IsSeat s → IsSome v.state.hand → (s.seat.me.0.seat.hand ≡ Some (piece s.number [])) × (s.number < pieces s.seat.me.0.sizes)
held_of s v is own has =
    held s.seat.me.0.seat.hand s.number (pieces s.seat.me.0.sizes) (subst (λ (u : SeatOf). IsSome u.state.hand) (sym is) has) own.hand

pub base_of : (s : SeatFields) (b : BoardFields) (v : SeatOf) (i : BoardId) → seat_in s ≡ v → board_id b ≡ i → v.board ≡ i → IsTable b → IsSeat s → IsSome v.state.hand
    → s.number / b.sizes.per_group * b.sizes.width < 2 ^ 32
base_of s b v i s_is b_is of table own has =
    base_in b.sizes s.number table.sizes (subst (λ (k : Sizes). s.number < pieces k) (of_board s b v i s_is b_is of).sizes (held_of s v s_is own has).1)

-- words read back, one more
in_range : (xs : List ℕ) (i a : ℕ) → get_elem? xs i ≡ some a → (i < length xs) × (get_or xs i 0 ≡ a)
in_range [] i a at = absurd (some-ne-none a (sym at))
in_range (x ∷ xs) zero a at = (omega arith, some-injective x a at)
in_range (x ∷ xs) (suc i) a at = let r = in_range xs i a at in (omega (arith, r.0), r.1)

pub one_word : (words xs ys : List ℕ) (a i : ℕ) → ys ≡ xs ++ a ∷ [] → get_elem? words (1 + i) ≡ some a → xs ≡ take i (drop 1 words) → ys ≡ take (i + 1) (drop 1 words)
one_word words xs ys a i pushed at is =
    let r = in_range words (1 + i) a at in
    let here : get_or (drop 1 words) i 0 ≡ a = get_or-drop 1 words i 0 ∙ r.1 in
    pushed
    ∙ ap (λ (l : List ℕ). l ++ a ∷ []) is
    ∙ ap (λ x. take i (drop 1 words) ++ x ∷ []) (sym here)
    ∙ sym (take_more (drop 1 words) i 0 (omega (arith, length-drop 1 words, r.0)))
