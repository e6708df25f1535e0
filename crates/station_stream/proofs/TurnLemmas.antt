-- The values of the turns of one direction.
use Rattle.std.proofs.Common.{◌≡◌, ◌∙◌, sym, ap, subst, ℕ, ◌+◌, ◌-◌, ◌<◌, ◌≤◌, ⊎_elim, option_map, ℤ, List, length, take, drop, get_or, Option, arith}
use Rattle.std.proofs.lemmas.Bool.{cases_lt}
use Rattle.std.proofs.lemmas.List.{get_or-take, get_or-drop}
use borrow.Rule.Slice.PartMut.{put_mid}
use Rattle.corr_model.specs.Rotated.{Band}
use Rattle.corr_model.specs.Delay.{DelayModel}
use Rattle.fringe_turns.specs.declared.turns.Turn.{Turn}
use Rattle.fringe_turns.specs.Direction.{direction_at}
use Rattle.fringe_turns.specs.Turns.{IsTurn}
use Rattle.value_codes.specs.Codes.{value_of, turned_by}
use Rattle.value_codes.specs.Taken.{IsTaken}
use Rattle.station_stream.proofs.PartLemmas.{get_or-before, get_or-inside, get_or-behind, in_part}

-- a turn lies among the samples that are turned
pub record TurnLies (s : ℕ → ℕ) (from len : ℕ) (turn : Turn) : Type 0 where
  pub direction : (i : ℕ) → turn.from ≤ i → i < turn.to → turn.direction ≡ s i
  pub begun : from ≤ turn.from
  pub after : turn.from < turn.to
  pub end : turn.to ≤ from + len

pub TurnLies-from : (model m : DelayModel) (lane band : Band) (from len at to : ℕ) (turn : Turn)
    → model ≡ m
    → lane ≡ band
    → IsTurn model lane at to turn
    → from ≤ at
    → to ≡ from + len
    → TurnLies (direction_at m band) from len turn
TurnLies-from model m lane band from len at to turn same edge is begun all = record {
  direction = λ i low high.
      is.direction i (omega (arith, is.begins, low)) high
      ∙ ap (λ (x : DelayModel). direction_at x lane i) same
      ∙ ap (λ (b : Band). direction_at m b i) edge;
  begun = omega (arith, is.begins, begun);
  after = omega (arith, is.begins, is.after);
  end = omega (arith, is.within, all);
}

-- the values of one more turn
pub value_of-turn : (s : ℕ → ℕ) (from at end direction n : ℕ) (old codes part : List ℕ)
    → ((i : ℕ) → at ≤ i → i < end → direction ≡ s i)
    → from ≤ at
    → at ≤ end
    → end ≤ from + length codes
    → n ≡ end - at
    → length part ≡ n
    → ((k : ℕ) (level : Option ℤ) → from + k < at → IsTaken (get_or old k 0) level → value_of (get_or codes k 0) ≡ option_map (λ x. turned_by x (s (from + k))) level)
    → ((k : ℕ) → at ≤ from + k → get_or codes k 0 ≡ get_or old k 0)
    → ((k : ℕ) (level : Option ℤ) → k < n → IsTaken (get_or (take n (drop (at - from) codes)) k 0) level → value_of (get_or part k 0) ≡ option_map (λ x. turned_by x direction) level)
    → (k : ℕ) (level : Option ℤ) → from + k < end → IsTaken (get_or old k 0) level
    → value_of (get_or (put_mid (at - from) n codes part) k 0) ≡ option_map (λ x. turned_by x (s (from + k))) level
value_of-turn s from at end direction n old codes part same begun order within size long before left each k level h taken =
    ⊎_elim
    (λ (early : from + k < at). ap value_of (get_or-before codes part (at - from) n k 0 (omega arith) (omega arith)) ∙ before k level early taken)
    (λ (late : at ≤ from + k).
    let j : ℕ = k - (at - from) in
    let inside = in_part from at end k begun late h in
    let below : j < n = omega (arith, inside.1, size) in
    let code : get_or (put_mid (at - from) n codes part) k 0 ≡ get_or part j 0 =
    ap (λ (i : ℕ). get_or (put_mid (at - from) n codes part) i 0) inside.0 ∙ get_or-inside codes part (at - from) n j 0 (omega (arith, long, below)) (omega arith) in
    let was : get_or (take n (drop (at - from) codes)) j 0 ≡ get_or old k 0 =
    get_or-take n (drop (at - from) codes) j 0 below ∙ get_or-drop (at - from) codes j 0 ∙ ap (λ (i : ℕ). get_or codes i 0) (sym inside.0) ∙ left k late in
    ap value_of code
    ∙ each j level below (subst (λ (c : ℕ). IsTaken c level) (sym was) taken)
    ∙ ap (λ (t : ℕ). option_map (λ x. turned_by x t) level) (same (from + k) late h))
    (cases_lt (from + k) at)

-- behind a turn nothing is changed
pub left-turn : (from at end n : ℕ) (old codes part : List ℕ) → from ≤ at → at ≤ end → end ≤ from + length codes → n ≡ end - at → length part ≡ n
    → ((k : ℕ) → at ≤ from + k → get_or codes k 0 ≡ get_or old k 0)
    → (k : ℕ) → end ≤ from + k → get_or (put_mid (at - from) n codes part) k 0 ≡ get_or old k 0
left-turn from at end n old codes part begun order within size long left k h =
    get_or-behind codes part (at - from) n k 0 long (omega arith) (omega arith) ∙ left k (omega arith)
