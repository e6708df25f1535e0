-- The edges of a bin, and the samples on one side of an edge.
use Rattle.std.proofs.Common.{◌≡◌, ℕ, zero, suc, ◌-◌, ◌*◌, ◌/◌, ◌%◌, ◌^◌, ◌≤◌, ◌<◌, ℤ, pos, negsuc, neg_ℤ, ◌+ℤ◌, ◌-ℤ◌, ◌*ℤ◌, ◌≤ℤ◌, ◌<ℤ◌, unsigned_abs, w64, of_z, to_z, ⊎_elim, refl, sym, ap, ◌∙◌, arith}
use Rattle.std.specs.Int.{int_div_euclid, int_rem_euclid}
use Rattle.std.proofs.Math.Nat.{mul_comm}
use Rattle.std.proofs.lemmas.Int.{ints, to_z-of_z}
use Rattle.std.proofs.lemmas.Nat.{div_below, le-div, mul-le}
use Rattle.std.proofs.lemmas.Bool.{cases_lt}
use Rattle.corr_model.specs.Delay.{between}
use Rattle.delay_line.specs.Interval.{IsIn, IsIntervalOf}
use Rattle.delay_line.proofs.Floors.{floor_neg-not_below, floor_neg-below, floor_neg-falls, floor_split, floor_unique, rest_below}
use Rattle.delay_line.proofs.Intervals.{rising_interval}
use Rattle.delay_track.proofs.Samples.{product_sum}
use Rattle.pulsar_bins.specs.Bin.{past_turn, bin_of}
use Rattle.pulsar_bins.proofs.BinLemmas.{bin_of-below}

-- bins counted through all turns
abbrev bins_in : ℕ → ℤ → ℤ
bins_in count x = int_div_euclid (x *ℤ pos count) (pos (2 ^ 32))

neg-product : (a b : ℕ) → neg_ℤ (pos a) *ℤ pos b ≡ neg_ℤ (pos (a * b))
neg-product zero b = omega (arith, ints)
neg-product (suc a) b = omega (arith, ints)

swap : (k : ℤ) (count : ℕ) → k *ℤ pos (2 ^ 32) *ℤ pos count ≡ k *ℤ pos count *ℤ pos (2 ^ 32)
swap (pos a) count = omega (arith, ints)
swap (negsuc a) count =
    let same : suc a * 2 ^ 32 * count ≡ suc a * count * 2 ^ 32 = omega arith in
    ap (λ (z : ℤ). z *ℤ pos count) (neg-product (suc a) (2 ^ 32)) ∙ neg-product (suc a * 2 ^ 32) count
    ∙ ap (λ (n : ℕ). neg_ℤ (pos n)) same
    ∙ sym (ap (λ (z : ℤ). z *ℤ pos (2 ^ 32)) (neg-product (suc a) count) ∙ neg-product (suc a * count) (2 ^ 32))

-- the turns that are past, and the bin in this one
bins_in-turns : (count : ℕ) (x : ℤ) → bins_in count x ≡ int_div_euclid x (pos (2 ^ 32)) *ℤ pos count +ℤ pos (bin_of count x)
unfolding bin_of
bins_in-turns count x =
    let k = int_div_euclid x (pos (2 ^ 32)) in
    let rest = rest_below x (2 ^ 32) (omega arith) in
    let past : past_turn x ≡ rest.0 = ap unsigned_abs rest.1 in
    let split : x ≡ k *ℤ pos (2 ^ 32) +ℤ pos (past_turn x) = floor_split x (2 ^ 32) (omega arith) ∙ ap (λ r. k *ℤ pos (2 ^ 32) +ℤ r) (rest.1 ∙ ap pos (sym past)) in
    let product = ap (λ (z : ℤ). z *ℤ pos count) split ∙ product_sum (k *ℤ pos (2 ^ 32)) (pos (past_turn x)) count in
    floor_unique (x *ℤ pos count) (k *ℤ pos count +ℤ pos (count * past_turn x / 2 ^ 32)) (2 ^ 32) (count * past_turn x % 2 ^ 32) (omega arith)
    (whole (x *ℤ pos count) (k *ℤ pos count) (count * past_turn x) (product ∙ ap (λ (z : ℤ). z +ℤ pos (past_turn x) *ℤ pos count) (swap k count) ∙ ap (λ (n : ℕ). k *ℤ pos count *ℤ pos (2 ^ 32) +ℤ pos n) (mul_comm (past_turn x) count)))
  where
    whole : (z q : ℤ) (n : ℕ) → z ≡ q *ℤ pos (2 ^ 32) +ℤ pos n → z ≡ (q +ℤ pos (n / 2 ^ 32)) *ℤ pos (2 ^ 32) +ℤ pos (n % 2 ^ 32)
    whole z q n e = omega (arith, ints)

-- as many bins through all turns are one bin
same_bin : (count : ℕ) (x y : ℤ) → 0 < count → bins_in count y ≡ bins_in count x → bin_of count y ≡ bin_of count x
same_bin count x y some e =
    let here = bins_in-turns count x in
    let there = bins_in-turns count y in
    let k = floor_unique (bins_in count x) (int_div_euclid x (pos (2 ^ 32))) count (bin_of count x) (bin_of-below count x some) here in
    let j = floor_unique (bins_in count y) (int_div_euclid y (pos (2 ^ 32))) count (bin_of count y) (bin_of-below count y some) there in
    let turns : int_div_euclid y (pos (2 ^ 32)) ≡ int_div_euclid x (pos (2 ^ 32)) = sym j ∙ ap (λ (z : ℤ). int_div_euclid z (pos count)) e ∙ k in
    left (bins_in count x) (bins_in count y) (int_div_euclid x (pos (2 ^ 32)) *ℤ pos count) (int_div_euclid y (pos (2 ^ 32)) *ℤ pos count) (bin_of count x) (bin_of count y)
    here there e (ap (λ (z : ℤ). z *ℤ pos count) turns)
  where
    left : (a b p q : ℤ) (m n : ℕ) → a ≡ p +ℤ pos m → b ≡ q +ℤ pos n → b ≡ a → q ≡ p → n ≡ m
    left a b p q m n one two same turns = omega (arith, ints)

later : (count : ℕ) (x : ℤ) (j : ℕ) → (x +ℤ pos j) *ℤ pos count ≡ x *ℤ pos count +ℤ pos (count * j)
later count x j = product_sum x (pos j) count ∙ ap (λ (n : ℕ). x *ℤ pos count +ℤ pos n) (mul_comm j count)

earlier : (count : ℕ) (x : ℤ) (j : ℕ) → (x -ℤ pos j) *ℤ pos count ≡ x *ℤ pos count -ℤ pos (count * j)
earlier count x j =
    let back : (x -ℤ pos j) +ℤ pos j ≡ x = omega (arith, ints) in
    less (x *ℤ pos count) ((x -ℤ pos j) *ℤ pos count) (rw back at (later count (x -ℤ pos j) j))
  where
    less : (p q : ℤ) → p ≡ q +ℤ pos (count * j) → q ≡ p -ℤ pos (count * j)
    less p q e = omega (arith, ints)

-- the phases of a bin about one of them that is so far past the bin's edge
bin_interval : (count : ℕ) (x : ℤ) (r : ℕ) → 0 < count → r < 2 ^ 32 → int_rem_euclid (x *ℤ pos count) (pos (2 ^ 32)) ≡ pos r
    → IsIntervalOf (bins_in count) x (x -ℤ pos (r / count)) (x +ℤ pos ((2 ^ 32 - 1 - r) / count) +ℤ pos 1)
bin_interval count x r some small rest = rising_interval (λ y. y *ℤ pos count) x count (2 ^ 32) r small some (later count x) (earlier count x) rest

pub same-before : (count : ℕ) (x first : ℤ) (r : ℕ) → 0 < count → r < 2 ^ 32 → int_rem_euclid (x *ℤ pos count) (pos (2 ^ 32)) ≡ pos r
    → first ≡ x -ℤ pos (r / count)
    → (y : ℤ) → first ≤ℤ y → y ≤ℤ x → bin_of count y ≡ bin_of count x
same-before count x first r some small rest is y begun before =
    let interval = bin_interval count x r some small rest in
    let within : IsIn (x -ℤ pos (r / count)) (x +ℤ pos ((2 ^ 32 - 1 - r) / count) +ℤ pos 1) y = record {
      not_before = omega (arith, ints, is, begun);
      before_end = omega (arith, ints, before);
    } in
    same_bin count x y some (interval.same y within)

pub same-behind : (count : ℕ) (x next : ℤ) (r : ℕ) → 0 < count → r < 2 ^ 32 → int_rem_euclid (x *ℤ pos count) (pos (2 ^ 32)) ≡ pos r
    → next ≡ x +ℤ pos ((2 ^ 32 - 1 - r) / count) +ℤ pos 1
    → (y : ℤ) → x ≤ℤ y → y <ℤ next → bin_of count y ≡ bin_of count x
same-behind count x next r some small rest is y begun before =
    let interval = bin_interval count x r some small rest in
    let within : IsIn (x -ℤ pos (r / count)) (x +ℤ pos ((2 ^ 32 - 1 - r) / count) +ℤ pos 1) y = record {
      not_before = omega (arith, ints, begun);
      before_end = omega (arith, ints, is, before);
    } in
    same_bin count x y some (interval.same y within)

-- a line that rises so far in a knot
rising : (first next : ℤ) (rise k n : ℕ) → pos rise ≡ next -ℤ first → between first next n k ≡ first +ℤ pos (rise * n / k)
rising first next rise k n e = rw (sym e) refl

pub rising-before : (first next edge : ℤ) (rise gap k n : ℕ) → 0 < k → pos rise ≡ next -ℤ first → pos gap ≡ edge -ℤ first
    → rise * n < gap * k → between first next n k <ℤ edge
rising-before first next edge rise gap k n some e g less =
    let low = div_below (rise * n) k gap some less in
    rw (rising first next rise k n e) (omega (arith, ints, low, g))

pub before-rising : (first next edge : ℤ) (rise gap k n : ℕ) → 0 < k → pos rise ≡ next -ℤ first → pos gap ≡ edge -ℤ first
    → between first next n k <ℤ edge → rise * n < gap * k
before-rising first next edge rise gap k n some e g before =
    ⊎_elim (λ less. less)
    (λ more. absurd (past (le-div gap (rise * n) k some more) (rw (rising first next rise k n e) at before)))
    (cases_lt (rise * n) (gap * k))
  where
    past : gap ≤ rise * n / k → (first +ℤ pos (rise * n / k)) <ℤ edge → ⊥
    past more less = omega (arith, ints, g)

-- a line that falls so far in a knot
falling : (first next : ℤ) (fall k n : ℕ) → pos fall ≡ first -ℤ next
    → between first next n k ≡ first +ℤ int_div_euclid (neg_ℤ (pos (fall * n))) (pos k)
falling first next fall k n e =
    let down : next -ℤ first ≡ neg_ℤ (pos fall) = omega (arith, ints, e) in
    rw (down, neg-product fall n) refl

pub falling-behind : (first next edge : ℤ) (fall gap k n : ℕ) → 0 < k → pos fall ≡ first -ℤ next → pos gap ≡ first -ℤ edge
    → fall * n ≤ gap * k → edge ≤ℤ between first next n k
falling-behind first next edge fall gap k n some e g less =
    let low = floor_neg-not_below (fall * n) k gap some less in
    rw (falling first next fall k n e) (omega (arith, ints, low, g))

pub behind-falling : (first next edge : ℤ) (fall gap k n : ℕ) → 0 < k → pos fall ≡ first -ℤ next → pos gap ≡ first -ℤ edge
    → edge ≤ℤ between first next n k → fall * n ≤ gap * k
behind-falling first next edge fall gap k n some e g behind =
    ⊎_elim
    (λ more. absurd (past (floor_neg-below (fall * n) k gap some more) (rw (falling first next fall k n e) at behind)))
    (λ less. less)
    (cases_lt (gap * k) (fall * n))
  where
    past : int_div_euclid (neg_ℤ (pos (fall * n))) (pos k) <ℤ neg_ℤ (pos gap) → edge ≤ℤ (first +ℤ int_div_euclid (neg_ℤ (pos (fall * n))) (pos k)) → ⊥
    past low high = omega (arith, ints, g)

-- a line that does not fall rises, and one that does not rise falls
between-rises : (first next : ℤ) (rise k m n : ℕ) → 0 < k → pos rise ≡ next -ℤ first → m ≤ n → between first next m k ≤ℤ between first next n k
between-rises first next rise k m n some e order =
    let more : rise * m ≤ rise * n = mul-le rise m rise n (omega arith) order in
    let high = le-div (rise * m / k) (rise * n) k some (omega arith) in
    rw (rising first next rise k m e, rising first next rise k n e) (omega (arith, ints, high))

between-falls : (first next : ℤ) (fall k m n : ℕ) → 0 < k → pos fall ≡ first -ℤ next → m ≤ n → between first next n k ≤ℤ between first next m k
between-falls first next fall k m n some e order =
    let more : fall * m ≤ fall * n = mul-le fall m fall n (omega arith) order in
    let low = floor_neg-falls (fall * m) (fall * n) k some more in
    rw (falling first next fall k m e, falling first next fall k n e) (omega (arith, ints, low))

-- what a word of 64 bits holds of a number
abbrev pub held : ℤ → ℤ
held x = to_z w64 (of_z w64 x)

-- it holds a phase, and an edge that is near it
record AreHeld (phase edge : ℤ) : Type 0 where
  phase_is : held phase ≡ phase
  edge_is : held edge ≡ edge

AreHeld-near : (phase edge : ℤ) → unsigned_abs phase < 2 ^ 59 → (held phase -ℤ pos (2 ^ 32)) ≤ℤ edge → edge ≤ℤ (held phase +ℤ pos (2 ^ 32)) → AreHeld phase edge
AreHeld-near phase edge small low high =
    let is = to_z-of_z w64 phase (omega (arith, ints, small)) in
    record { phase_is = is; edge_is = to_z-of_z w64 edge (omega (arith, ints, is, small, low, high)) }

-- So a line stays in the bin of its phase at a sample until it comes to the bin's edge.
module _ (count : ℕ) (first next phase edge : ℤ) (k m n : ℕ) (some : 0 < k) (small : unsigned_abs phase < 2 ^ 59) (is : phase ≡ between first next m k) (order : m ≤ n) where
  pub same-rising : first <ℤ next → held phase <ℤ edge → edge ≤ℤ (held phase +ℤ pos (2 ^ 32)) → ((y : ℤ) → held phase ≤ℤ y → y <ℤ edge → bin_of count y ≡ bin_of count (held phase))
      → between first next n k <ℤ held edge → bin_of count (between first next n k) ≡ bin_of count (between first next m k)
  same-rising up after near same before =
      let words = AreHeld-near phase edge small (omega (arith, ints, after)) near in
      (rw (words.phase_is, is) at same) (between first next n k) (between-rises first next (unsigned_abs (next -ℤ first)) k m n some (omega (arith, ints, up)) order) (rw words.edge_is at before)

  pub same-falling : next ≤ℤ first → edge ≤ℤ held phase → held phase <ℤ (edge +ℤ pos (2 ^ 32)) → ((y : ℤ) → edge ≤ℤ y → y ≤ℤ held phase → bin_of count y ≡ bin_of count (held phase))
      → held edge ≤ℤ between first next n k → bin_of count (between first next n k) ≡ bin_of count (between first next m k)
  same-falling down begun near same behind =
      let words = AreHeld-near phase edge small (omega (arith, ints, near)) (omega (arith, ints, begun)) in
      (rw (words.phase_is, is) at same) (between first next n k) (rw words.edge_is at behind) (between-falls first next (unsigned_abs (next -ℤ first)) k m n some (omega (arith, ints, down)) order)
