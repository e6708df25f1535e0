-- Stretches of one direction on lines that rise, fall or are level.
use Rattle.std.proofs.Common.{◌≡◌, ℕ, zero, suc, ◌+◌, ◌-◌, ◌*◌, ◌/◌, ◌≤◌, ◌<◌, true, false, ℤ, pos, neg_ℤ, ◌+ℤ◌, ◌-ℤ◌, ◌*ℤ◌, refl, sym, ap, ◌∙◌, arith}
use Rattle.std.proofs.Math.Nat.{zero-mul, zero-div}
use Rattle.std.proofs.lemmas.Int.{ints}
use Rattle.corr_model.specs.Delay.{between}
use Rattle.delay_line.specs.declared.line.Line.{Line}
use Rattle.delay_line.specs.{Interval.{IsIn}, Stretch.{IsExit}}
use Rattle.delay_line.proofs.Exits.{rising_exit, falling_exit}
use Rattle.fringe_turns.specs.declared.fringe.Fringe.{Fringe}
use Rattle.fringe_turns.specs.Eighths.{band_of, facing_of, IsRoom}
use Rattle.fringe_turns.specs.Lines.{IsLineTurn}
use Rattle.fringe_turns.proofs.QuotientLemmas.{floor_neg}
use Rattle.fringe_turns.proofs.Rooms.{up-same, down-same}

neg-mul : (a b : ℕ) → neg_ℤ (pos a) *ℤ pos b ≡ neg_ℤ (pos (a * b))
neg-mul zero b = omega (arith, ints)
neg-mul (suc a) b = omega (arith, ints)

rising-between : (first next : ℤ) (rise k n : ℕ) → next -ℤ first ≡ pos rise → between first next n k ≡ first +ℤ pos (rise * n / k)
rising-between first next rise k n e = rw e refl

falling-between : (first next : ℤ) (fall k n : ℕ) → 0 < k → next -ℤ first ≡ neg_ℤ (pos fall)
    → between first next n k ≡ first -ℤ pos ((fall * n + (k - 1)) / k)
falling-between first next fall k n h e =
    rw (e, neg-mul fall n, floor_neg (fall * n) k h) (less first ((fall * n + (k - 1)) / k))
  where
    less : (z : ℤ) (a : ℕ) → z +ℤ neg_ℤ (pos a) ≡ z -ℤ pos a
    less z a = omega (arith, ints)

level-between : (first next : ℤ) (k n : ℕ) → next -ℤ first ≡ pos 0 → between first next n k ≡ first
level-between first next k n e =
    let none : 0 * n / k ≡ 0 = ap (λ a. a / k) (zero-mul n) ∙ zero-div k in
    rising-between first next 0 k n e ∙ ap (λ a. first +ℤ pos a) none ∙ plus_none first
  where
    plus_none : (z : ℤ) → z +ℤ pos 0 ≡ z
    plus_none z = omega (arith, ints)

-- as long as a line stays among delays of one direction
turn_of_exit : (f : Fringe) (line : Line) (x least until : ℤ) (from to end direction : ℕ) → direction ≡ facing_of f x
    → ((y : ℤ) → IsIn least until y → facing_of f y ≡ facing_of f x) → IsExit (λ n. IsIn least until (between line.first line.next n line.knot)) from to end
    → IsLineTurn f line from to (record { direction = direction; end = end })
turn_of_exit f line x least until from to end direction faces same exit = record {
  after = exit.after;
  within = exit.within;
  direction = λ n p q. faces ∙ sym (same (between line.first line.next n line.knot) (exit.holds n p q));
}

pub rising_turn : (f : Fringe) (line : Line) (x : ℤ) (rise gone room from to end direction : ℕ)
    → 0 < line.knot → line.next -ℤ line.first ≡ pos rise → gone ≡ rise * from / line.knot → x ≡ line.first +ℤ pos gone
    → direction ≡ facing_of f x → IsRoom (band_of f) f.rate x true room → from < to → end ≤ to
    → ((n : ℕ) → n < end → rise * n < (gone + room + 1) * line.knot) → (end < to → (n : ℕ) → end ≤ n → (gone + room + 1) * line.knot ≤ rise * n)
    → IsLineTurn f line from to (record { direction = direction; end = end })
rising_turn f line x rise gone room from to end direction h e g is faces free order within below above =
    let k = line.knot in
    let at : between line.first line.next from k ≡ x = rising-between line.first line.next rise k from e ∙ ap (λ a. line.first +ℤ pos a) (sym g) ∙ sym is in
    turn_of_exit f line x x (x +ℤ pos room +ℤ pos 1) from to end direction faces (λ y inside. up-same (band_of f) f.rate room x y free inside)
    (rising_exit line.first line.next x (x +ℤ pos room +ℤ pos 1) rise (gone + room + 1) k from to end h e (far x line.first is) order (rw at (here x room)) within below above)
  where
    here : (x : ℤ) (room : ℕ) → IsIn x (x +ℤ pos room +ℤ pos 1) x
    here x room = record { not_before = omega (arith, ints); before_end = omega (arith, ints) }

    far : (x first : ℤ) → x ≡ first +ℤ pos gone → (x +ℤ pos room +ℤ pos 1) -ℤ first ≡ pos (gone + room + 1)
    far x first is = omega (arith, ints)

pub falling_turn : (f : Fringe) (line : Line) (x : ℤ) (fall gone room from to end direction : ℕ)
    → 0 < line.knot → line.next -ℤ line.first ≡ neg_ℤ (pos fall) → gone ≡ (fall * from + (line.knot - 1)) / line.knot → x ≡ line.first -ℤ pos gone
    → direction ≡ facing_of f x → IsRoom (band_of f) f.rate x false room → from < to → end ≤ to
    → ((n : ℕ) → n < end → fall * n ≤ (gone + room) * line.knot) → (end < to → (n : ℕ) → end ≤ n → (gone + room) * line.knot < fall * n)
    → IsLineTurn f line from to (record { direction = direction; end = end })
falling_turn f line x fall gone room from to end direction h e g is faces free order within below above =
    let k = line.knot in
    let at : between line.first line.next from k ≡ x = falling-between line.first line.next fall k from h e ∙ ap (λ a. line.first -ℤ pos a) (sym g) ∙ sym is in
    turn_of_exit f line x (x -ℤ pos room) (x +ℤ pos 1) from to end direction faces (λ y inside. down-same (band_of f) f.rate room x y free inside)
    (falling_exit line.first line.next (x -ℤ pos room) (x +ℤ pos 1) fall (gone + room) k from to end h e (far x line.first is) order (rw at (here x room)) within below above)
  where
    here : (x : ℤ) (room : ℕ) → IsIn (x -ℤ pos room) (x +ℤ pos 1) x
    here x room = record { not_before = omega (arith, ints); before_end = omega (arith, ints) }

    far : (x first : ℤ) → x ≡ first -ℤ pos gone → first -ℤ (x -ℤ pos room) ≡ pos (gone + room)
    far x first is = omega (arith, ints)

pub level_turn : (f : Fringe) (line : Line) (from to direction : ℕ) → line.next -ℤ line.first ≡ pos 0 → direction ≡ facing_of f line.first → from < to
    → IsLineTurn f line from to (record { direction = direction; end = to })
level_turn f line from to direction e faces order = record {
  after = order;
  within = omega arith;
  direction = λ n p q. faces ∙ sym (ap (λ z. facing_of f z) (level-between line.first line.next line.knot n e));
}
