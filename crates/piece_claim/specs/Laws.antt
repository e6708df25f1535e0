-- Laws of boards and of the sums on them.
use Rattle.std.specs.Prelude.{◌≡◌, ℕ, ◌+◌, ◌*◌, ◌/◌, ◌<◌, ◌≤◌, ◌==◌, List, All, length, slice_set, slice_index, slice_index_or, count_by}
use Rattle.std.specs.List.{sum_by}
use Rattle.piece_claim.specs.declared.event.Event.{Event}
use Rattle.piece_claim.specs.State.{Seat, BoardState, pieces, sums, ended_seat}
use Rattle.piece_claim.specs.Invariant.{IsSizes, IsSound}
use Rattle.piece_claim.specs.Events.{IsAllowed, after}

-- every event that is allowed leads from a state with the invariant to one with it
abbrev pub EventsKeepInvariant : Type 0
EventsKeepInvariant = (b : BoardState) (e : Event) → IsSizes b.sizes → IsSound b → IsAllowed b e → IsSound (after b e)

-- where the invariant holds, no word passes the pieces of a group times the bound
abbrev pub WordsAreBounded : Type 0
WordsAreBounded =
    (b : BoardState) (w : ℕ) → IsSizes b.sizes → IsSound b → w < sums b.sizes
    → slice_index b.words w ≤ b.sizes.per_group * b.sizes.bound

-- and the counter does not pass the number of pieces and the shares
abbrev pub CounterIsBounded : Type 0
CounterIsBounded = (b : BoardState) → IsSound b → b.next ≤ pieces b.sizes + b.sizes.shares

-- where one seat is replaced, a sum over all seats changes by the difference of the two parts
abbrev pub SumChangesByParts : Type 0
SumChangesByParts =
    (part : Seat → ℕ) (seats : List Seat) (i : ℕ) (v : Seat) → i < length seats
    → sum_by part (slice_set seats i v) + part (slice_index_or seats i ended_seat) ≡ sum_by part seats + part v

-- numbers of pieces of one group, none twice, are at most as many as a group has
abbrev pub DistinctFitGroup : Type 0
DistinctFitGroup =
    (per_group group : ℕ) (numbers : List ℕ) → 0 < per_group
    → ((n : ℕ) → count_by (λ m. m == n) numbers ≤ 1)
    → All (λ n. n / per_group ≡ group) numbers
    → length numbers ≤ per_group
