-- Events and lists of events.
use Rattle.std.proofs.Common.{◌≡◌, ◌≢◌, ◌<◌, ℕ, ◌+◌, ◌^◌, List, [], ◌∷◌, ◌++◌, length, take, slice_set, slice_index, false, Option, None, Some, refl, sym, ap, ◌∙◌, subst, arith, get_or-set_same, get_or-set_other, get_or}
use Rattle.std.proofs.lemmas.List.{set-append_left, get_or_append_left, take_more, get_or_default, get_or_read, set_comm, set-set, set-get_or}
use Rattle.piece_claim.specs.declared.event.Event.{Event}
use Rattle.piece_claim.specs.declared.event.Event.TheVariants.{Draw, Post, Split, Join}
use Rattle.piece_claim.specs.State.{BoardState, Piece, Seat, board, pieces, sums, seat_at, new_seat, ended_seat}
use Rattle.piece_claim.specs.Moves.{CanDraw, CanPost, CanSplit, CanJoin, LacksAmounts, drawn, posted, added, word_of, one_less, joined, after_draw, after_post}
use Rattle.piece_claim.specs.Shown.{IsBoard}
use Rattle.piece_claim.specs.Invariant.{IsSizes, IsSound}
use Rattle.piece_claim.specs.Events.{IsAllowed, after, Refuses, Runs, StopsWith}
use Rattle.piece_claim.specs.declared.event.StepFault.{StepFault}
use Rattle.piece_claim.proofs.Draws.{keeps_draw}
use Rattle.piece_claim.proofs.Posts.{keeps_post, place_inside}
use Rattle.piece_claim.proofs.Weights.{hand_inside, live_inside}
use Rattle.piece_claim.proofs.Bounds.{word_bound, next_bound, shares_bound}
use Rattle.piece_claim.proofs.Splits.{keeps_split}
use Rattle.piece_claim.proofs.Joins.{keeps_join}

pub each_event_keeps : (b : BoardState) (e : Event) → IsSizes b.sizes → IsSound b → IsAllowed b e → IsSound (after b e)
each_event_keeps b (Draw i) sizes sound can = keeps_draw b i sizes sound can
each_event_keeps b (Post i amount) sizes sound can = keeps_post b i amount sizes sound can
each_event_keeps b (Split i) sizes sound can = keeps_split b i sound can
each_event_keeps b (Join i j) sizes sound can = keeps_join b i j sound can.0 can.1

-- one event more
pub Runs-push : (b c : BoardState) (events : List Event) (e : Event) → Runs b events c → IsAllowed c e → Runs b (events ++ e ∷ []) (after c e)
Runs-push b c [] e runs can = (subst (λ d. IsAllowed d e) runs can, subst (λ d. after c e ≡ after d e) runs refl)
Runs-push b c (x ∷ events) e runs can = (runs.0, Runs-push (after b x) c events e runs.1 can)

pub Runs-more : (b c c' : BoardState) (events : List Event) (i : ℕ) (d : Event) → i < length events → Runs b (take i events) c → IsAllowed c (get_or events i d) × (c' ≡ after c (get_or events i d)) → Runs b (take (i + 1) events) c'
Runs-more b c c' events i d lt runs moved =
    subst (λ es. Runs b es c') (sym (take_more events i d lt))
    (subst (λ s. Runs b (take i events ++ get_or events i d ∷ []) s) (sym moved.1) (Runs-push b c (take i events) (get_or events i d) runs moved.0))

-- the events before the i-th happened, and it did not
pub stops : (fault : StepFault) (b c c' : BoardState) (events : List Event) (i : ℕ) (d : Event) → i < length events → Runs b (take i events) c → c' ≡ c → Refuses fault (IsAllowed c (get_or events i d)) → StopsWith fault b events c'
stops fault b c c' events i d lt runs same refused = (
  i,
  lt,
  subst (λ s. Runs b (take i events) s) (sym same) runs,
  λ e. subst (λ s. Refuses fault (IsAllowed s (get_or events i e))) (sym same) (subst (λ x. Refuses fault (IsAllowed c x)) (get_or_default events i d e lt) refused),
)

-- The state after an event, as the program leaves it.
pub drew : (b : BoardState) (i : ℕ) (v : Seat) → IsBoard b → CanDraw (seat_at b i) → v ≡ drawn (pieces b.sizes) (seat_at b i) b.next → IsBoard (board b.sizes (b.next + 1) b.words (slice_set b.seats i v))
drew b i v is can e = record {
  sizes = is.sizes;
  sound = subst (λ w. IsSound (board b.sizes (b.next + 1) b.words (slice_set b.seats i w))) (sym e) (keeps_draw b i is.sizes is.sound can);
}

pub next_fits : (b : BoardState) (i : ℕ) → IsBoard b → CanDraw (seat_at b i) → b.next + 1 < 2 ^ 64
next_fits b i is can = omega (arith, next_bound (after_draw b i) (keeps_draw b i is.sizes is.sound can), is.sizes.room)

pub posts : (b : BoardState) (i a w : ℕ) (v : Seat) (words : List ℕ) → IsBoard b → CanPost b.sizes (seat_at b i) a → w ≡ word_of b.sizes (seat_at b i).hand → v ≡ posted b.sizes.width (seat_at b i) a → words ≡ added b.words w a
    → IsBoard (board b.sizes b.next words (slice_set b.seats i v))
posts b i a w v words is can place e e' = record {
  sizes = is.sizes;
  sound = subst (λ ws. IsSound (board b.sizes b.next ws (slice_set b.seats i v))) (sym (e' ∙ ap (λ x. added b.words x a) place))
      (subst (λ u. IsSound (board b.sizes b.next (added b.words (word_of b.sizes (seat_at b i).hand) a) (slice_set b.seats i u))) (sym e) (keeps_post b i a is.sizes is.sound can));
}

-- the sum of a post is one of the board's
pub word_inside : (b : BoardState) (i a : ℕ) → IsBoard b → CanPost b.sizes (seat_at b i) a → word_of b.sizes (seat_at b i).hand < sums b.sizes
word_inside b i a is can = go (seat_at b i).hand refl can.has
  where
    go : (o : Option Piece) → (seat_at b i).hand ≡ o → LacksAmounts b.sizes.width o → word_of b.sizes o < sums b.sizes
    go None e has = absurd has
    go (Some p) e has = place_inside b.sizes is.sizes p a has (hand_inside b i p is.sound.drawn (live_inside b.seats i can.live) e)

-- and it stays within 64 bits
pub word_fits : (b : BoardState) (i a : ℕ) → IsBoard b → CanPost b.sizes (seat_at b i) a → slice_index b.words (word_of b.sizes (seat_at b i).hand) + a < 2 ^ 64
word_fits b i a is can =
    let w = word_of b.sizes (seat_at b i).hand in
    let inside = word_inside b i a is can in
    let now : slice_index (added b.words w a) w ≡ slice_index b.words w + a = get_or-set_same b.words w (slice_index b.words w + a) 0 (omega (arith, is.sound.words.count, inside)) in
    omega (arith, now, word_bound (after_post b i a) w is.sizes (keeps_post b i a is.sizes is.sound can) inside, is.sizes.fits)

pub splits : (b : BoardState) (i : ℕ) (seats : List Seat) → IsBoard b → CanSplit (seat_at b i) → seats ≡ slice_set b.seats i (one_less (seat_at b i)) ++ new_seat 1 ∷ [] → IsBoard (board b.sizes b.next b.words seats)
splits b i seats is can e = record {
  sizes = is.sizes;
  sound = subst (λ vs. IsSound (board b.sizes b.next b.words vs)) (sym e) (keeps_split b i is.sound can);
}

-- the seat may be changed before or after the new one is there
pub pushed_first : (seats : List Seat) (i : ℕ) (v w : Seat) → i < length seats → slice_set (seats ++ w ∷ []) i v ≡ slice_set seats i v ++ w ∷ []
pushed_first seats i v w lt = set-append_left seats (w ∷ []) i v lt

pub joins : (b : BoardState) (i j : ℕ) (seats : List Seat) → IsBoard b → i ≢ j → CanJoin (seat_at b i) (seat_at b j) → seats ≡ slice_set (slice_set b.seats i (joined (seat_at b i) (seat_at b j))) j ended_seat → IsBoard (board b.sizes b.next b.words seats)
joins b i j seats is differ can e = record {
  sizes = is.sizes;
  sound = subst (λ vs. IsSound (board b.sizes b.next b.words vs)) (sym e) (keeps_join b i j is.sound differ can);
}

-- two live seats have no more than 64 bits of shares
pub joined_fits : (b : BoardState) (i j : ℕ) → IsBoard b → (seat_at b i).ended ≡ false → (seat_at b j).ended ≡ false → (seat_at b i).shares + (seat_at b j).shares < 2 ^ 64
joined_fits b i j is live other_live = omega (arith, shares_bound b i is.sound live, shares_bound b j is.sound other_live, is.sizes.few)

-- the seat that was read
pub seat_read : (b : BoardState) (i : ℕ) (x : Seat) → (seat_at b i).ended ≡ false → x ≡ get_or b.seats i x → x ≡ seat_at b i
seat_read b i x live e = get_or_read b.seats i x (live_inside b.seats i live) e ended_seat

pub split_seats : (b : BoardState) (i : ℕ) (seats : List Seat) (x v : Seat) → (seat_at b i).ended ≡ false → seats ≡ b.seats ++ new_seat 1 ∷ [] → x ≡ get_or seats i x → v ≡ one_less x
    → slice_set seats i v ≡ slice_set b.seats i (one_less (seat_at b i)) ++ new_seat 1 ∷ []
split_seats b i seats x v live pushed read e =
    let inside = live_inside b.seats i live in
    let was : x ≡ seat_at b i =
    read ∙ ap (λ (l : List Seat). get_or l i x) pushed ∙ get_or_append_left b.seats (new_seat 1 ∷ []) x i inside ∙ get_or_default b.seats i x ended_seat inside in
    ap (λ (l : List Seat). slice_set l i v) pushed ∙ set-append_left b.seats (new_seat 1 ∷ []) i v inside ∙ ap (λ u. slice_set b.seats i u ++ new_seat 1 ∷ []) (e ∙ ap one_less was)

-- another seat is as it was
pub unchanged_other : (b : BoardState) (i j : ℕ) (e x : Seat) → i ≢ j → (seat_at b i).ended ≡ false → x ≡ get_or (slice_set b.seats j e) i x → x ≡ seat_at b i
unchanged_other b i j e x differ live read = read ∙ get_or-set_other b.seats j i e x differ ∙ get_or_default b.seats i x ended_seat (live_inside b.seats i live)

-- the joined seat is written after the ended one
pub join_seats : (b : BoardState) (i j : ℕ) (e x y v : Seat) → i ≢ j → CanJoin (seat_at b i) (seat_at b j) → e ≡ ended_seat → x ≡ get_or (slice_set b.seats j e) i x → y ≡ get_or b.seats j y → v ≡ joined x y
    → slice_set (slice_set b.seats j e) i v ≡ slice_set (slice_set b.seats i (joined (seat_at b i) (seat_at b j))) j ended_seat
join_seats b i j e x y v differ can is read other_read new =
    let was = unchanged_other b i j e x differ can.live read in
    let other = seat_read b j y can.other_live other_read in
    set_comm b.seats j i e v (λ same. differ (sym same))
    ∙ ap (λ u. slice_set (slice_set b.seats i u) j e) (new ∙ ap (λ u. joined u y) was ∙ ap (λ u. joined (seat_at b i) u) other)
    ∙ ap (λ u. slice_set (slice_set b.seats i (joined (seat_at b i) (seat_at b j))) j u) is

-- where the join found no memory, every seat is as it was
pub seats_back : (b : BoardState) (i j : ℕ) (e x v w : Seat) → i ≢ j → (seat_at b i).ended ≡ false → x ≡ get_or (slice_set b.seats j e) i x → v ≡ x → w ≡ seat_at b j
    → slice_set (slice_set (slice_set b.seats j e) i v) j w ≡ b.seats
seats_back b i j e x v w differ live read same back =
    let was = unchanged_other b i j e x differ live read in
    ap (λ (l : List Seat). slice_set l j w) (set_comm b.seats j i e v (λ eq. differ (sym eq)))
    ∙ set-set (slice_set b.seats i v) j e w
    ∙ ap (λ u. slice_set (slice_set b.seats i u) j w) (same ∙ was)
    ∙ ap (λ (l : List Seat). slice_set l j w) (set-get_or b.seats i ended_seat)
    ∙ ap (λ u. slice_set b.seats j u) back
    ∙ set-get_or b.seats j ended_seat
