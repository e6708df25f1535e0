-- Where the levels of a channel lie in whole bytes.
use Rattle.std.proofs.Common.{◌≡◌, ℕ, zero, suc, ◌+◌, ◌-◌, ◌*◌, ◌/◌, ◌%◌, ◌<◌, ◌≤◌, List, ◌++◌, length, min, slice_index, ⊎_elim, sym, subst, ap, ◌∙◌, arith}
use Rattle.std.proofs.lemmas.Bool.{cases_lt}
use Rattle.std.proofs.lemmas.List.{get_or_append_left, get_or-append-add}
use Rattle.std.proofs.lemmas.Nat.{mul-add-lt, div_below, div-add-mod'}
use Rattle.std.proofs.Math.Nat.{mul-div-le}

-- each level of a byte begins in it
pub in-byte : (low step per k : ℕ) → per * step ≡ 8 → low < step → k < per → low + k * step < 8
in-byte low step per k eight below h =
    let inside : k * step + low < step * per = mul-add-lt k step low per h below in
    let turned : step * per ≡ per * step = grind arith in
    let same : step * per ≡ 8 = turned ∙ eight in
    omega (arith, inside, same)

-- the place of level k of whole byte j
pub in-bytes : (byte low step per j k : ℕ) → per * step ≡ 8
    → 8 * byte + low + (per * j + k) * step ≡ 8 * (byte + j) + low + k * step
in-bytes byte low step per j k eight =
    let apart : 8 * byte + low + (per * j + k) * step ≡ 8 * byte + low + (per * step) * j + k * step = grind arith in
    apart ∙ ap (λ n. 8 * byte + low + n * j + k * step) eight ∙ grind arith

-- the place of level k behind the byte of the first
pub behind-byte : (byte shift low skipped head step per k : ℕ) → per * step ≡ 8 → skipped * step + low ≡ shift → head + skipped ≡ per
    → 8 * byte + shift + (head + k) * step ≡ 8 * (byte + 1) + low + k * step
behind-byte byte shift low skipped head step per k eight first all =
    let begun : 8 * byte + shift + (head + k) * step ≡ 8 * byte + (skipped * step + low) + (head + k) * step =
    ap (λ n. 8 * byte + n + (head + k) * step) (sym first) in
    let apart : 8 * byte + (skipped * step + low) + (head + k) * step ≡ 8 * byte + (head + skipped) * step + low + k * step = grind arith in
    begun ∙ apart ∙ ap (λ n. 8 * byte + n + low + k * step) (ap (λ n. n * step) all ∙ eight) ∙ grind arith

some-step : (per step : ℕ) → per * step ≡ 8 → 0 < step
some-step per zero eight = let none : per * 0 ≡ 0 = grind arith in absurd (omega (arith, none, eight))
some-step per (suc step) eight = omega arith

pub some-per : (per step : ℕ) → per * step ≡ 8 → 0 < per
some-per per step eight = let turned : step * per ≡ per * step = grind arith in some-step step per (turned ∙ eight)

-- the place of a level behind the byte of the first, where a byte ends with the level before `head`
pub behind-head : (byte shift step per n head k : ℕ) → per * step ≡ 8 → shift < 8 → head ≡ min (per - shift / step) n → k < n - head
    → 8 * byte + shift + (head + k) * step ≡ 8 * (byte + 1) + shift % step + k * step
behind-head byte shift step per n head k eight below is h =
    let skipped : shift / step < per = div_below shift step per (some-step per step eight) (subst (λ m. shift < m) (sym eight) below) in
    let all : head + shift / step ≡ per = omega (arith, is, h, skipped) in
    behind-byte byte shift (shift % step) (shift / step) head step per k eight (div-add-mod' shift step) all

-- and of a level behind the whole bytes
pub behind-bytes : (byte shift step per n head count k : ℕ) → per * step ≡ 8 → shift < 8 → head ≡ min (per - shift / step) n → per * count + k < n - head
    → 8 * byte + shift + (head + (per * count + k)) * step ≡ 8 * (byte + 1 + count) + shift % step + k * step
behind-bytes byte shift step per n head count k eight below is h =
    behind-head byte shift step per n head (per * count + k) eight below is h ∙ in-bytes (byte + 1) (shift % step) step per count k eight

pub per-is : (per step : ℕ) → per * step ≡ 8 → per ≡ 8 / step
per-is per step eight = grind arith

-- whole bytes of which each level is asked for lie in the array
bytes-inside : (byte shift bits step per n head count size : ℕ) → per * step ≡ 8 → shift < 8 → 0 < bits → 0 < n → head ≡ min (per - shift / step) n
    → per * count ≤ n - head → ((i : ℕ) → i < n → 8 * byte + shift + i * step + bits ≤ 8 * size) → byte + 1 + count ≤ size
bytes-inside byte shift bits step per n head zero size eight below some any is levels inside = omega (arith, inside 0 any, some)
bytes-inside byte shift bits step per n head (suc count) size eight below some any is levels inside =
    let last : ℕ = per * count + (per - 1) in
    let more : per * suc count ≡ per * count + per = grind arith in
    let each : 0 < per = some-per per step eight in
    let behind : last < n - head = omega (arith, levels, more, each) in
    let place : 8 * byte + shift + (head + last) * step ≡ 8 * (byte + 1 + count) + shift % step + (per - 1) * step =
    behind-bytes byte shift step per n head count (per - 1) eight below is behind in
    omega (arith, place, some, inside (head + last) (omega (arith, behind)))

pub vectors-inside : (byte shift bits step per n head size : ℕ) → per * step ≡ 8 → shift < 8 → 0 < bits → 0 < n → head ≡ min (per - shift / step) n
    → ((i : ℕ) → i < n → 8 * byte + shift + i * step + bits ≤ 8 * size) → byte + 1 + 16 * ((n - head) / (16 * per)) ≤ size
vectors-inside byte shift bits step per n head size eight below some any is inside =
    let count : ℕ = (n - head) / (16 * per) in
    let turned : per * (16 * count) ≡ 16 * per * count = grind arith in
    bytes-inside byte shift bits step per n head (16 * count) size eight below some any is
    (omega (arith, turned, mul-div-le (n - head) (16 * per))) inside

-- what holds of each item of two lists holds of each of both together
pub each-joined : (P : ℕ → ℕ → Type 0) (xs ys : List ℕ) (n : ℕ) → ((i : ℕ) → i < length xs → P i (slice_index xs i))
    → ((k : ℕ) → k < n → P (length xs + k) (slice_index ys k)) → (i : ℕ) → i < length xs + n → P i (slice_index (xs ++ ys) i)
each-joined P xs ys n front behind i h =
    ⊎_elim (λ below. subst (P i) (sym (get_or_append_left xs ys 0 i below)) (front i below))
    (λ past.
    let k : ℕ = i - length xs in
    let place : length xs + k ≡ i = omega (arith, past) in
    let inside : k < n = omega (arith, past, h) in
    subst (λ j. P j (slice_index (xs ++ ys) j)) place (subst (P (length xs + k)) (sym (get_or-append-add xs ys k 0)) (behind k inside)))
    (cases_lt i (length xs))

-- what holds of each item of three lists holds of each of all together
pub each-of-three : (P : ℕ → ℕ → Type 0) (front middle rest : List ℕ) → ((i : ℕ) → i < length front → P i (slice_index front i))
    → ((k : ℕ) → k < length middle → P (length front + k) (slice_index middle k))
    → ((k : ℕ) → k < length rest → P (length front + (length middle + k)) (slice_index rest k))
    → (i : ℕ) → i < length front + (length middle + length rest) → P i (slice_index (front ++ (middle ++ rest)) i)
each-of-three P front middle rest first second third =
    each-joined P front (middle ++ rest) (length middle + length rest) first
    (each-joined (λ j. P (length front + j)) middle rest (length rest) second third)
