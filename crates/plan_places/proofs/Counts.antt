-- Numbers of parts, and of epochs in samples that are cut by integrations.
use Rattle.std.specs.Int.{div_ceil}
use Rattle.std.proofs.Common.{◌≡◌, ◌∙◌, sym, ap, ℕ, ◌+◌, ◌*◌, ◌/◌, ◌%◌, ◌<◌, ◌≤◌, min, ⊎_elim, arith}
use Rattle.std.proofs.Math.Nat.{mul-le-mul_left}
use Rattle.std.proofs.lemmas.Bool.{cases_lt}
use Rattle.std.proofs.lemmas.Grind.{div_ceil_times}
use Rattle.piece_plan.specs.Counts.{count_in}
use Rattle.piece_plan.proofs.Quotients.{ceil_covers, below_ceil, quotient_is}

pub ceil-is : (x y q : ℕ) → 0 < y → x ≤ q * y → q * y < x + y → div_ceil x y ≡ q
ceil-is x y q some covers close =
    ⊎_elim
    (λ more. absurd (omega (arith, below_ceil x y q some more, covers)))
    (λ le.
    ⊎_elim
    (λ less.
    let step : y * (div_ceil x y + 1) ≤ y * q = mul-le-mul_left y (omega (arith, less)) in
    absurd (omega (arith, step, ceil_covers x y some, close)))
    (λ ge. omega (arith, le, ge))
    (cases_lt (div_ceil x y) q))
    (cases_lt q (div_ceil x y))

pub ceil-one : (x y : ℕ) → 0 < x → x ≤ y → div_ceil x y ≡ 1
ceil-one x y some small = ceil-is x y 1 (omega (arith, some, small)) (omega (arith, small)) (omega (arith, some))

pub ceil-none : (y : ℕ) → 0 < y → div_ceil 0 y ≡ 0
ceil-none y some = ceil-is 0 y 0 some (omega arith) (omega (arith, some))

pub ceil-more : (x y z : ℕ) → 0 < y → z ≡ y + x → div_ceil z y ≡ 1 + div_ceil x y
ceil-more x y z some sum =
    let times = div_ceil_times x y some in
    ceil-is z y (1 + div_ceil x y) some (omega (arith, sum, times.0)) (omega (arith, sum, times.1))

-- less than an integration
pub count-small : (x integration epoch : ℕ) → 0 < x → x ≤ integration → 0 < epoch → count_in x integration epoch ≡ div_ceil x epoch
count-small x integration epoch some small cut =
    ⊎_elim
    (λ less.
    let parts = quotient_is x integration 0 x (omega arith) less in
    let whole : x / integration * div_ceil integration epoch ≡ 0 * div_ceil integration epoch = ap (λ n. n * div_ceil integration epoch) parts.0 in
    let rest : div_ceil (x % integration) epoch ≡ div_ceil x epoch = ap (λ n. div_ceil n epoch) parts.1 in
    omega (arith, whole, rest))
    (λ ge.
    let same : integration ≡ x = omega (arith, small, ge) in
    let parts = quotient_is x integration 1 0 (omega (arith, same)) (omega (arith, some, small)) in
    let whole : x / integration * div_ceil integration epoch ≡ 1 * div_ceil integration epoch = ap (λ n. n * div_ceil integration epoch) parts.0 in
    let rest : div_ceil (x % integration) epoch ≡ div_ceil 0 epoch = ap (λ n. div_ceil n epoch) parts.1 in
    let all : div_ceil integration epoch ≡ div_ceil x epoch = ap (λ n. div_ceil n epoch) same in
    omega (arith, whole, rest, all, ceil-none epoch cut))
    (cases_lt x integration)

-- one integration more
pub count-more : (x z integration epoch : ℕ) → 0 < integration → z ≡ integration + x
    → count_in z integration epoch ≡ div_ceil integration epoch + count_in x integration epoch
count-more x z integration epoch some sum =
    let old : integration * (x / integration) + x % integration ≡ x = omega (arith, some) in
    let small : x % integration < integration = omega (arith, some) in
    let parts = quotient_is z integration (x / integration + 1) (x % integration) (omega (arith, sum, old)) small in
    let whole : z / integration * div_ceil integration epoch ≡ (x / integration + 1) * div_ceil integration epoch =
    ap (λ n. n * div_ceil integration epoch) parts.0 in
    let rest : div_ceil (z % integration) epoch ≡ div_ceil (x % integration) epoch = ap (λ n. div_ceil n epoch) parts.1 in
    omega (arith, whole, rest)

-- by the length of the first integration
pub count-by-first : (x first integration epoch : ℕ) → 0 < x → 0 < epoch → first ≡ min integration x
    → count_in x first epoch ≡ count_in x integration epoch
count-by-first x first integration epoch some cut is =
    ⊎_elim
    (λ less.
    let same : first ≡ integration = omega (arith, is, less) in
    ap (λ n. count_in x n epoch) same)
    (λ ge.
    let same : first ≡ x = omega (arith, is, ge) in
    ap (λ n. count_in x n epoch) same ∙ count-small x x epoch some (omega arith) cut ∙ sym (count-small x integration epoch some ge cut))
    (cases_lt integration x)
