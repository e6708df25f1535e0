-- Events, lists of events, and refusals.
use Rattle.std.specs.Prelude.{◌≡◌, ◌≢◌, ℕ, ◌<◌, List, [], ◌∷◌, length, take, slice_index_or}
use Rattle.piece_claim.specs.declared.event.Event.{Event}
use Rattle.piece_claim.specs.declared.event.Event.TheVariants.{Draw, Post, Split, Join}
use Rattle.piece_claim.specs.declared.event.StepFault.{StepFault}
use Rattle.piece_claim.specs.declared.event.StepFault.TheVariants.{NotAllowed, Memory}
use Rattle.piece_claim.specs.State.{BoardState, seat_at}
use Rattle.piece_claim.specs.Moves.{CanDraw, CanPost, CanSplit, CanJoin, after_draw, after_post, after_split, after_join}

abbrev pub IsAllowed : BoardState → Event → Type 0
IsAllowed b (Draw i) = CanDraw (seat_at b i)
IsAllowed b (Post i amount) = CanPost b.sizes (seat_at b i) amount
IsAllowed b (Split i) = CanSplit (seat_at b i)
IsAllowed b (Join i j) = (i ≢ j) × CanJoin (seat_at b i) (seat_at b j)

abbrev pub after : BoardState → Event → BoardState
after b (Draw i) = after_draw b i
after b (Post i amount) = after_post b i amount
after b (Split i) = after_split b i
after b (Join i j) = after_join b i j

-- an event is refused as not allowed exactly where it is not, and may find no memory where it is
abbrev pub Refuses : StepFault → Type 0 → Type 0
Refuses NotAllowed Allowed = ¬ Allowed
Refuses Memory Allowed = Allowed

-- the events of a list, each allowed in the state that the ones before it lead to, lead from b to c
abbrev pub Runs : BoardState → List Event → BoardState → Type 0
Runs b [] c = c ≡ b
Runs b (e ∷ events) c = IsAllowed b e × Runs (after b e) events c

-- the events before the k-th lead from b to c, and there the k-th is refused
abbrev pub StopsWith : StepFault → BoardState → List Event → BoardState → Type 0
StopsWith fault b events c =
    (k : ℕ) × (k < length events) × Runs b (take k events) c
    × ((d : Event) → Refuses fault (IsAllowed c (slice_index_or events k d)))
