-- The delays at which a quotient that is rounded down stays the same.
use Rattle.std.proofs.Common.{◌≡◌, ◌≢◌, ℕ, ◌+◌, ◌-◌, ◌*◌, ◌/◌, ◌^◌, ◌≤◌, ◌<◌, ℤ, pos, unsigned_abs, ◌+ℤ◌, ◌-ℤ◌, ◌*ℤ◌, ◌≤ℤ◌, ◌<ℤ◌, ◌⊎◌, ⊎_elim, inl, inr, sym, ap, subst, arith}
use Rattle.std.specs.Int.{int_div_euclid, int_rem_euclid}
use Rattle.std.proofs.lemmas.Int.{ints, by_lt_z}
use Rattle.std.proofs.lemmas.Nat.{le-div, mul-le}
use Rattle.std.proofs.lemmas.Bool.{cases_lt}
use Rattle.corr_model.specs.Delay.{nearest}
use Rattle.delay_line.specs.Interval.{IsIntervalOf}
use Rattle.delay_line.proofs.Floors.{floor_split, floor_unique, rest_below}

-- f is the same so far below x and so far above it, and another further off
interval_around : {X : Type 0} (f : ℤ → X) (x : ℤ) (below above : ℕ)
    → ((j : ℕ) → j ≤ above → f (x +ℤ pos j) ≡ f x) → ((j : ℕ) → above < j → f (x +ℤ pos j) ≢ f x)
    → ((j : ℕ) → j ≤ below → f (x -ℤ pos j) ≡ f x) → ((j : ℕ) → below < j → f (x -ℤ pos j) ≢ f x)
    → IsIntervalOf f x (x -ℤ pos below) (x +ℤ pos above +ℤ pos 1)
interval_around {X} f x below above above_in above_out below_in below_out = record {
  same = λ y h. ⊎_elim
      (λ more. subst (λ (z : ℤ). f z ≡ f x) (later y more) (above_in (unsigned_abs (y -ℤ x)) (omega (arith, ints, more, h.before_end))))
      (λ less. subst (λ (z : ℤ). f z ≡ f x) (earlier y less) (below_in (unsigned_abs (y -ℤ x)) (omega (arith, ints, less, h.not_before))))
      (order x y);
  all = λ y small e. ⊎_elim
      (λ more. ⊎_elim
      (λ far. absurd (above_out (unsigned_abs (y -ℤ x)) far (subst (λ (z : ℤ). f z ≡ f x) (sym (later y more)) e)))
      (λ near. record { not_before = omega (arith, ints, more); before_end = omega (arith, ints, more, near) })
      (cases_lt above (unsigned_abs (y -ℤ x))))
      (λ less. ⊎_elim
      (λ far. absurd (below_out (unsigned_abs (y -ℤ x)) far (subst (λ (z : ℤ). f z ≡ f x) (sym (earlier y less)) e)))
      (λ near. record { not_before = omega (arith, ints, less, near); before_end = omega (arith, ints, less) })
      (cases_lt below (unsigned_abs (y -ℤ x))))
      (order x y);
}
  where
    order : (x y : ℤ) → (x ≤ℤ y) ⊎ (y <ℤ x)
    order x y = by_lt_z y x (λ less. inr less) (λ more. inl more)

    later : (y : ℤ) → x ≤ℤ y → x +ℤ pos (unsigned_abs (y -ℤ x)) ≡ y
    later y more = omega (arith, ints, more)

    earlier : (y : ℤ) → y <ℤ x → x -ℤ pos (unsigned_abs (y -ℤ x)) ≡ y
    earlier y less = omega (arith, ints, less)

-- The quotient of z moved by t: the same while the rest leaves room for it, and another behind that.

floor_more-same : (z : ℤ) (d r t : ℕ) → int_rem_euclid z (pos d) ≡ pos r → r + t < d → int_div_euclid (z +ℤ pos t) (pos d) ≡ int_div_euclid z (pos d)
floor_more-same z d r t e less =
    let split = floor_split z d (omega arith) in
    floor_unique (z +ℤ pos t) (int_div_euclid z (pos d)) d (r + t) less (moved (int_div_euclid z (pos d) *ℤ pos d) (int_rem_euclid z (pos d)) split e)
  where
    moved : (p s : ℤ) → z ≡ p +ℤ s → s ≡ pos r → z +ℤ pos t ≡ p +ℤ pos (r + t)
    moved p s split e = omega (arith, ints)

floor_more-other : (z : ℤ) (d r t : ℕ) → 0 < d → int_rem_euclid z (pos d) ≡ pos r → d ≤ r + t → int_div_euclid (z +ℤ pos t) (pos d) ≢ int_div_euclid z (pos d)
floor_more-other z d r t h e more same =
    let split = floor_split z d h in
    let other = floor_split (z +ℤ pos t) d h in
    let rest = rest_below (z +ℤ pos t) d h in
    apart (int_div_euclid z (pos d) *ℤ pos d) (int_div_euclid (z +ℤ pos t) (pos d) *ℤ pos d) (int_rem_euclid z (pos d)) (int_rem_euclid (z +ℤ pos t) (pos d)) rest.0
    split other e rest.1 rest.2 (ap (λ q. q *ℤ pos d) same)
  where
    apart : (p p' s s' : ℤ) (r' : ℕ) → z ≡ p +ℤ s → z +ℤ pos t ≡ p' +ℤ s' → s ≡ pos r → s' ≡ pos r' → r' < d → p' ≡ p → ⊥
    apart p p' s s' r' split other e rest small same = omega (arith, ints)

floor_less-same : (z : ℤ) (d r t : ℕ) → int_rem_euclid z (pos d) ≡ pos r → r < d → t ≤ r → int_div_euclid (z -ℤ pos t) (pos d) ≡ int_div_euclid z (pos d)
floor_less-same z d r t e small less =
    let split = floor_split z d (omega arith) in
    floor_unique (z -ℤ pos t) (int_div_euclid z (pos d)) d (r - t) (omega arith) (moved (int_div_euclid z (pos d) *ℤ pos d) (int_rem_euclid z (pos d)) split e)
  where
    moved : (p s : ℤ) → z ≡ p +ℤ s → s ≡ pos r → z -ℤ pos t ≡ p +ℤ pos (r - t)
    moved p s split e = omega (arith, ints)

floor_less-other : (z : ℤ) (d r t : ℕ) → 0 < d → int_rem_euclid z (pos d) ≡ pos r → r < t → int_div_euclid (z -ℤ pos t) (pos d) ≢ int_div_euclid z (pos d)
floor_less-other z d r t h e more same =
    let split = floor_split z d h in
    let other = floor_split (z -ℤ pos t) d h in
    let rest = rest_below (z -ℤ pos t) d h in
    apart (int_div_euclid z (pos d) *ℤ pos d) (int_div_euclid (z -ℤ pos t) (pos d) *ℤ pos d) (int_rem_euclid z (pos d)) (int_rem_euclid (z -ℤ pos t) (pos d)) rest.0
    split other e rest.1 (ap (λ q. q *ℤ pos d) same)
  where
    apart : (p p' s s' : ℤ) (r' : ℕ) → z ≡ p +ℤ s → z -ℤ pos t ≡ p' +ℤ s' → s ≡ pos r → s' ≡ pos r' → p' ≡ p → ⊥
    apart p p' s s' r' split other e rest same = omega (arith, ints)

product_within : (m t j : ℕ) → 0 < m → j ≤ t / m → m * j ≤ t
product_within m t j h e =
    let less : m * j ≤ m * (t / m) = mul-le m j m (t / m) (omega arith) e in
    omega arith

product_past : (m t j : ℕ) → 0 < m → t / m < j → t < m * j
product_past m t j h e =
    ⊎_elim (λ less. less) (λ more. absurd (let high = le-div j t m h (omega arith) in omega arith)) (cases_lt t (m * j))

-- the quotient of what rises by m a step of the delay
pub rising_interval : (f : ℤ → ℤ) (x : ℤ) (m d r : ℕ) → r < d → 0 < m
    → ((j : ℕ) → f (x +ℤ pos j) ≡ f x +ℤ pos (m * j)) → ((j : ℕ) → f (x -ℤ pos j) ≡ f x -ℤ pos (m * j)) → int_rem_euclid (f x) (pos d) ≡ pos r
    → IsIntervalOf (λ y. int_div_euclid (f y) (pos d)) x (x -ℤ pos (r / m)) (x +ℤ pos ((d - 1 - r) / m) +ℤ pos 1)
rising_interval f x m d r small some later earlier rest =
    interval_around (λ y. int_div_euclid (f y) (pos d)) x (r / m) ((d - 1 - r) / m)
    (λ j h. rw (later j) (floor_more-same (f x) d r (m * j) rest (omega (arith, product_within m (d - 1 - r) j some h))))
    (λ j h. rw (later j) (floor_more-other (f x) d r (m * j) (omega arith) rest (omega (arith, product_past m (d - 1 - r) j some h))))
    (λ j h. rw (earlier j) (floor_less-same (f x) d r (m * j) rest small (product_within m r j some h)))
    (λ j h. rw (earlier j) (floor_less-other (f x) d r (m * j) (omega arith) rest (product_past m r j some h)))

-- and of what falls by m
pub falling_interval : (f : ℤ → ℤ) (x : ℤ) (m d r : ℕ) → r < d → 0 < m
    → ((j : ℕ) → f (x +ℤ pos j) ≡ f x -ℤ pos (m * j)) → ((j : ℕ) → f (x -ℤ pos j) ≡ f x +ℤ pos (m * j)) → int_rem_euclid (f x) (pos d) ≡ pos r
    → IsIntervalOf (λ y. int_div_euclid (f y) (pos d)) x (x -ℤ pos ((d - 1 - r) / m)) (x +ℤ pos (r / m) +ℤ pos 1)
falling_interval f x m d r small some later earlier rest =
    interval_around (λ y. int_div_euclid (f y) (pos d)) x ((d - 1 - r) / m) (r / m)
    (λ j h. rw (later j) (floor_less-same (f x) d r (m * j) rest small (product_within m r j some h)))
    (λ j h. rw (later j) (floor_less-other (f x) d r (m * j) (omega arith) rest (product_past m r j some h)))
    (λ j h. rw (earlier j) (floor_more-same (f x) d r (m * j) rest (omega (arith, product_within m (d - 1 - r) j some h))))
    (λ j h. rw (earlier j) (floor_more-other (f x) d r (m * j) (omega arith) rest (omega (arith, product_past m (d - 1 - r) j some h))))

pub nearest_interval : (x : ℤ) (r : ℕ) → r < 2 ^ 32 → int_rem_euclid (x +ℤ pos (2 ^ 31)) (pos (2 ^ 32)) ≡ pos r
    → IsIntervalOf nearest x (x -ℤ pos r) (x +ℤ pos (2 ^ 32 - 1 - r) +ℤ pos 1)
nearest_interval x r small rest =
    at (r / 1) ((2 ^ 32 - 1 - r) / 1) (omega arith) (omega arith)
    (rising_interval (λ y. y +ℤ pos (2 ^ 31)) x 1 (2 ^ 32) r small (omega arith) (λ j. omega (arith, ints)) (λ j. omega (arith, ints)) rest)
  where
    at : (below above : ℕ) → below ≡ r → above ≡ 2 ^ 32 - 1 - r → IsIntervalOf nearest x (x -ℤ pos below) (x +ℤ pos above +ℤ pos 1)
        → IsIntervalOf nearest x (x -ℤ pos r) (x +ℤ pos (2 ^ 32 - 1 - r) +ℤ pos 1)
    at below above e g h = rw (e, g) at h

-- an interval by other names of its ends
pub interval_at : {X : Type 0} (f : ℤ → X) (x least end least' end' : ℤ) → IsIntervalOf f x least end → least' ≡ least → end' ≡ end → IsIntervalOf f x least' end'
interval_at f x least end least' end' interval e g = rw (e, g) interval
