-- Where a line leaves an interval of delays.
use Rattle.std.proofs.Common.{◌≡◌, ℕ, zero, suc, ◌*◌, ◌/◌, ◌≤◌, ◌<◌, ℤ, pos, neg_ℤ, ◌+ℤ◌, ◌-ℤ◌, ◌*ℤ◌, ◌≤ℤ◌, ◌<ℤ◌, ⊎_elim, refl, arith}
use Rattle.std.specs.Int.{int_div_euclid}
use Rattle.std.proofs.Math.Nat.{zero-mul}
use Rattle.std.proofs.lemmas.Int.{ints}
use Rattle.std.proofs.lemmas.Nat.{div_below, le-div, mul-le}
use Rattle.std.proofs.lemmas.Bool.{cases_lt}
use Rattle.corr_model.specs.Delay.{between}
use Rattle.delay_line.specs.Interval.{IsIn}
use Rattle.delay_line.specs.Stretch.{IsExit}
use Rattle.delay_line.proofs.Floors.{floor_neg-not_below, floor_neg-below, floor_neg-falls}

neg-mul : (a b : ℕ) → neg_ℤ (pos a) *ℤ pos b ≡ neg_ℤ (pos (a * b))
neg-mul zero b = omega (arith, ints)
neg-mul (suc a) b = omega (arith, ints)

rising : (first next : ℤ) (rise k n : ℕ) → next -ℤ first ≡ pos rise → between first next n k ≡ first +ℤ pos (rise * n / k)
rising first next rise k n e = rw e refl

falling : (first next : ℤ) (fall k n : ℕ) → next -ℤ first ≡ neg_ℤ (pos fall)
    → between first next n k ≡ first +ℤ int_div_euclid (neg_ℤ (pos (fall * n))) (pos k)
falling first next fall k n e = rw (e, neg-mul fall n) refl

rising-below : (first next until : ℤ) (rise gap k n : ℕ) → 0 < k → next -ℤ first ≡ pos rise → until -ℤ first ≡ pos gap
    → rise * n < gap * k → between first next n k <ℤ until
rising-below first next until rise gap k n h e g less =
    let low = div_below (rise * n) k gap h less in
    rw (rising first next rise k n e) (omega (arith, ints, low, g))

rising-above : (first next until : ℤ) (rise gap k n : ℕ) → 0 < k → next -ℤ first ≡ pos rise → until -ℤ first ≡ pos gap
    → gap * k ≤ rise * n → until ≤ℤ between first next n k
rising-above first next until rise gap k n h e g more =
    let high = le-div gap (rise * n) k h more in
    rw (rising first next rise k n e) (omega (arith, ints, high, g))

rising-le : (first next : ℤ) (rise k m n : ℕ) → 0 < k → next -ℤ first ≡ pos rise → m ≤ n
    → between first next m k ≤ℤ between first next n k
rising-le first next rise k m n h e order =
    let more : rise * m ≤ rise * n = mul-le rise m rise n (omega arith) order in
    let high = le-div (rise * m / k) (rise * n) k h (omega arith) in
    rw (rising first next rise k m e, rising first next rise k n e) (omega (arith, ints, high))

falling-above : (first next least : ℤ) (fall gap k n : ℕ) → 0 < k → next -ℤ first ≡ neg_ℤ (pos fall) → first -ℤ least ≡ pos gap
    → fall * n ≤ gap * k → least ≤ℤ between first next n k
falling-above first next least fall gap k n h e g less =
    let low = floor_neg-not_below (fall * n) k gap h less in
    rw (falling first next fall k n e) (omega (arith, ints, low, g))

falling-below : (first next least : ℤ) (fall gap k n : ℕ) → 0 < k → next -ℤ first ≡ neg_ℤ (pos fall) → first -ℤ least ≡ pos gap
    → gap * k < fall * n → between first next n k <ℤ least
falling-below first next least fall gap k n h e g more =
    let low = floor_neg-below (fall * n) k gap h more in
    rw (falling first next fall k n e) (omega (arith, ints, low, g))

falling-le : (first next : ℤ) (fall k m n : ℕ) → 0 < k → next -ℤ first ≡ neg_ℤ (pos fall) → m ≤ n
    → between first next n k ≤ℤ between first next m k
falling-le first next fall k m n h e order =
    let more : fall * m ≤ fall * n = mul-le fall m fall n (omega arith) order in
    let low = floor_neg-falls (fall * m) (fall * n) k h more in
    rw (falling first next fall k m e, falling first next fall k n e) (omega (arith, ints, low))

-- where a line that has left does not come back, it leaves behind the first sample
exit_of : (P : ℕ → Type 0) (from to end : ℕ) → from < to → P from → end ≤ to → ((n : ℕ) → from ≤ n → n < end → P n) → (end < to → (n : ℕ) → end ≤ n → ¬ (P n))
    → IsExit P from to end
exit_of P from to end order begin within holds out = record {
  after = ⊎_elim (λ less. less) (λ past. absurd (out (omega arith) from past begin)) (cases_lt from end);
  within = within;
  holds = holds;
  ends = λ less. out less end (omega arith);
}

pub rising_exit : (first next least until : ℤ) (rise gap k from to end : ℕ) → 0 < k → next -ℤ first ≡ pos rise → until -ℤ first ≡ pos gap
    → from < to → IsIn least until (between first next from k) → end ≤ to
    → ((n : ℕ) → n < end → rise * n < gap * k) → (end < to → (n : ℕ) → end ≤ n → gap * k ≤ rise * n)
    → IsExit (λ n. IsIn least until (between first next n k)) from to end
rising_exit first next least until rise gap k from to end h e g order begin within below above =
    exit_of (λ n. IsIn least until (between first next n k)) from to end order begin within
    (λ n p q. record {
      not_before = omega (arith, ints, begin.not_before, rising-le first next rise k from n h e p);
      before_end = rising-below first next until rise gap k n h e g (below n q);
    })
    (λ less n past there. let high = rising-above first next until rise gap k n h e g (above less n past) in omega (arith, ints, high, there.before_end))

pub falling_exit : (first next least until : ℤ) (fall gap k from to end : ℕ) → 0 < k → next -ℤ first ≡ neg_ℤ (pos fall) → first -ℤ least ≡ pos gap
    → from < to → IsIn least until (between first next from k) → end ≤ to
    → ((n : ℕ) → n < end → fall * n ≤ gap * k) → (end < to → (n : ℕ) → end ≤ n → gap * k < fall * n)
    → IsExit (λ n. IsIn least until (between first next n k)) from to end
falling_exit first next least until fall gap k from to end h e g order begin within below above =
    exit_of (λ n. IsIn least until (between first next n k)) from to end order begin within
    (λ n p q. record {
      not_before = falling-above first next least fall gap k n h e g (below n q);
      before_end = omega (arith, ints, begin.before_end, falling-le first next fall k from n h e p);
    })
    (λ less n past there. let low = falling-below first next least fall gap k n h e g (above less n past) in omega (arith, ints, low, there.not_before))

-- a level line never leaves
pub level_exit : (first next least until : ℤ) (k from to : ℕ) → 0 < k → next -ℤ first ≡ pos 0 → from < to → IsIn least until (between first next from k)
    → IsExit (λ n. IsIn least until (between first next n k)) from to to
level_exit first next least until k from to h e order begin = record {
  after = order;
  within = omega arith;
  holds = λ n p q. rw (same n) begin;
  ends = λ less. absurd (omega arith);
}
  where
    same : (n : ℕ) → between first next n k ≡ between first next from k
    same n = simp (rising first next 0 k n e, rising first next 0 k from e, zero-mul)
