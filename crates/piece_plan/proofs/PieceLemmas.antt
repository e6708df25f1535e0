-- How many pieces an epoch has, and which is the n-th.
use Rattle.std.specs.Prelude.{slice_get, option_map}
use Rattle.std.proofs.Common.{◌≡◌, ◌∙◌, sym, ap, ℕ, zero, suc, ◌+◌, ◌-◌, ◌*◌, ◌/◌, ◌%◌, ◌^◌, ◌<◌, ◌≤◌, ⊎_elim, min, length, Some, arith}
use Rattle.std.proofs.Math.Nat.{mul-le-mul_left}
use Rattle.std.proofs.lemmas.Bool.{cases_lt}
use Rattle.std.proofs.lemmas.Nat.{mul-le}
use Rattle.std.proofs.lemmas.List.{length-map}
use Rattle.std.proofs.lemmas.Option.{slice_get-map}
use Rattle.piece_plan.specs.declared.piece.Piece.{Piece}
use Rattle.piece_plan.specs.Parts.{part_at, parts}
use Rattle.piece_plan.specs.Pieces.{PieceSizes, IsCut, group_count, per_group, piece_of, group_pieces, product_pieces, pieces_of}
use Rattle.piece_plan.proofs.Quotients.{below_ceil, ceil_above, ceil_le}
use Rattle.piece_plan.proofs.ListPlaces.{slice_get-equal, length-equal}
use Rattle.piece_plan.proofs.PartLemmas.{length-parts, slice_get-parts}

divisor-some : (n d k : ℕ) → n < k * d → 0 < d
divisor-some n zero k h = absurd (omega (arith, h))
divisor-some n (suc d) k h = omega arith

-- a quotient is below a number where the dividend is below that many times the divisor
pub quotient-lt : (n d k : ℕ) → n < k * d → n / d < k
quotient-lt n d k h =
    ⊎_elim
    (λ less. less)
    (λ more.
    let step : d * k ≤ d * (n / d) = mul-le-mul_left d more in
    let some = divisor-some n d k h in
    let whole : d * (n / d) + n % d ≡ n = omega (arith, some) in
    absurd (omega (arith, step, whole, h)))
    (cases_lt (n / d) k)

pub per_group-some : (s : PieceSizes) → IsCut s → 0 < per_group s
per_group-some s is = ceil_above (s.epoch.to - s.epoch.from) s.piece 0 is.piece (omega (arith, is.epoch.some))

length-group_pieces : (s : PieceSizes) (product baseline : ℕ) → length (group_pieces s product baseline) ≡ per_group s
unfolding group_pieces
length-group_pieces s product baseline =
    length-map (parts s.epoch.from s.epoch.to s.piece) (piece_of product baseline) ∙ length-parts s.epoch.from s.epoch.to s.piece

length-product_pieces : (s : PieceSizes) (product : ℕ) → length (product_pieces s product) ≡ s.epoch.baselines * per_group s
unfolding product_pieces
length-product_pieces s product =
    length-equal (group_pieces s product) (per_group s) 0 s.epoch.baselines (λ j below. length-group_pieces s product (0 + j))

pub length-pieces_of : (s : PieceSizes) → length (pieces_of s) ≡ s.epoch.products * (s.epoch.baselines * per_group s)
unfolding pieces_of
length-pieces_of s =
    length-equal (product_pieces s) (s.epoch.baselines * per_group s) 0 s.epoch.products (λ j below. length-product_pieces s (0 + j))

pub length-groups : (s : PieceSizes) → length (pieces_of s) ≡ group_count s * per_group s
length-groups s = length-pieces_of s ∙ omega arith

slice_get-group_pieces : (s : PieceSizes) (product baseline k : ℕ) → k < per_group s
    → slice_get (group_pieces s product baseline) k ≡ Some (piece_of product baseline (part_at s.epoch.from s.epoch.to s.piece k))
unfolding group_pieces
slice_get-group_pieces s product baseline k h =
    slice_get-map (piece_of product baseline) (parts s.epoch.from s.epoch.to s.piece) k
    ∙ ap (option_map (piece_of product baseline)) (slice_get-parts s.epoch.from s.epoch.to s.piece k h)

slice_get-product_pieces : (s : PieceSizes) (product baseline k : ℕ) → baseline < s.epoch.baselines → k < per_group s
    → slice_get (product_pieces s product) (baseline * per_group s + k) ≡ Some (piece_of product baseline (part_at s.epoch.from s.epoch.to s.piece k))
unfolding product_pieces
slice_get-product_pieces s product baseline k inside h =
    let here : 0 + baseline ≡ baseline = omega arith in
    slice_get-equal (group_pieces s product) (per_group s) 0 s.epoch.baselines baseline k _ inside
    (λ j below. length-group_pieces s product (0 + j))
    (ap (λ b. slice_get (group_pieces s product b) k) here ∙ slice_get-group_pieces s product baseline k h)

slice_get-pieces_of : (s : PieceSizes) (product baseline k : ℕ) → product < s.epoch.products → baseline < s.epoch.baselines → k < per_group s
    → slice_get (pieces_of s) (product * (s.epoch.baselines * per_group s) + (baseline * per_group s + k))
    ≡ Some (piece_of product baseline (part_at s.epoch.from s.epoch.to s.piece k))
unfolding pieces_of
slice_get-pieces_of s product baseline k low inside h =
    let here : 0 + product ≡ product = omega arith in
    slice_get-equal (product_pieces s) (s.epoch.baselines * per_group s) 0 s.epoch.products product (baseline * per_group s + k) _ low
    (λ j below. length-product_pieces s (0 + j))
    (ap (λ p. slice_get (product_pieces s p) (baseline * per_group s + k)) here ∙ slice_get-product_pieces s product baseline k inside h)

-- piece n of an epoch
pub record IsPiece (s : PieceSizes) (n : ℕ) : Type 0 where
  pub product : n / per_group s / s.epoch.baselines < s.epoch.products
  pub begun : n % per_group s * s.piece < s.epoch.to - s.epoch.from
  pub at : slice_get (pieces_of s) n
      ≡ Some (piece_of (n / per_group s / s.epoch.baselines) (n / per_group s % s.epoch.baselines) (part_at s.epoch.from s.epoch.to s.piece (n % per_group s)))

pub piece-IsPiece : (s : PieceSizes) (n : ℕ) → IsCut s → n < length (pieces_of s) → IsPiece s n
piece-IsPiece s n is inside =
    let some = per_group-some s is in
    let group : n / per_group s < s.epoch.products * s.epoch.baselines =
    quotient-lt n (per_group s) (s.epoch.products * s.epoch.baselines) (omega (arith, inside, length-groups s)) in
    let product : n / per_group s / s.epoch.baselines < s.epoch.products = quotient-lt (n / per_group s) s.epoch.baselines s.epoch.products group in
    let baseline : n / per_group s % s.epoch.baselines < s.epoch.baselines = omega (arith, is.epoch.baselines) in
    let part : n % per_group s < per_group s = omega (arith, some) in
    let outer : s.epoch.baselines * (n / per_group s / s.epoch.baselines) + n / per_group s % s.epoch.baselines ≡ n / per_group s = omega (arith, is.epoch.baselines) in
    let inner : per_group s * (n / per_group s) + n % per_group s ≡ n = omega (arith, some) in
    let spread : per_group s * (n / per_group s) ≡ n / per_group s / s.epoch.baselines * (s.epoch.baselines * per_group s) + n / per_group s % s.epoch.baselines * per_group s =
    ap (λ (g : ℕ). per_group s * g) (sym outer) ∙ omega arith in
    let place : n / per_group s / s.epoch.baselines * (s.epoch.baselines * per_group s) + (n / per_group s % s.epoch.baselines * per_group s + n % per_group s) ≡ n =
    omega (arith, spread, inner) in
    record {
      product = product;
      begun = below_ceil (s.epoch.to - s.epoch.from) s.piece (n % per_group s) is.piece part;
      at = ap (slice_get (pieces_of s)) (sym place)
          ∙ slice_get-pieces_of s (n / per_group s / s.epoch.baselines) (n / per_group s % s.epoch.baselines) (n % per_group s) product baseline part;
    }

-- the number of pieces fits
pub pieces-bound : (s : PieceSizes) (per : ℕ) → IsCut s → per ≡ per_group s → s.epoch.products * s.epoch.baselines * per < 2 ^ 64
pieces-bound s per is count =
    let fewer : per ≤ 4194304 = omega (arith, count, is.epoch.short, ceil_le (s.epoch.to - s.epoch.from) s.piece is.piece) in
    let lags : s.epoch.products * s.epoch.baselines * 1 ≤ s.epoch.products * s.epoch.baselines * s.epoch.lags =
    mul-le-mul_left (s.epoch.products * s.epoch.baselines) (omega (arith, is.epoch.lags.some)) in
    let groups : s.epoch.products * s.epoch.baselines ≤ 4194304 = omega (arith, lags, is.epoch.cells) in
    let all : s.epoch.products * s.epoch.baselines * per ≤ 4194304 * 4194304 = mul-le (s.epoch.products * s.epoch.baselines) per 4194304 4194304 groups fewer in
    omega (arith, all)

pub same_piece : (product product' baseline baseline' from from' to to' : ℕ) → product ≡ product' → baseline ≡ baseline' → from ≡ from' → to ≡ to'
    → ◌≡◌ {A = Piece}
    (record { product = product; baseline = baseline; from = from; to = to })
    (record { product = product'; baseline = baseline'; from = from'; to = to' })
same_piece product product' baseline baseline' from from' to to' p q r t = cc

-- the piece as it is computed
pub piece_is : (s : PieceSizes) (n per baselines least : ℕ) → IsCut s → n < length (pieces_of s) → per ≡ per_group s → baselines ≡ s.epoch.baselines
    → least ≡ min s.piece (s.epoch.to - (s.epoch.from + n % per * s.piece))
    → slice_get (pieces_of s) n
    ≡ Some (record {
      product = n / per / baselines;
      baseline = n / per % baselines;
      from = s.epoch.from + n % per * s.piece;
      to = s.epoch.from + n % per * s.piece + least;
    })
piece_is s n per baselines least is inside count many close =
    let found = piece-IsPiece s n is inside in
    let group : n / per ≡ n / per_group s = ap (λ (d : ℕ). n / d) count in
    let product : n / per / baselines ≡ n / per_group s / s.epoch.baselines =
    ap (λ (g : ℕ). g / baselines) group ∙ ap (λ (b : ℕ). n / per_group s / b) many in
    let baseline : n / per % baselines ≡ n / per_group s % s.epoch.baselines =
    ap (λ (g : ℕ). g % baselines) group ∙ ap (λ (b : ℕ). n / per_group s % b) many in
    let past : n % per * s.piece ≡ n % per_group s * s.piece = ap (λ (d : ℕ). n % d * s.piece) count in
    found.at
    ∙ ap Some (sym (same_piece _ _ _ _ _ _ _ _ product baseline (omega (arith, past)) (omega (arith, past, close, found.begun))))

pub product-small : (s : PieceSizes) (n per baselines : ℕ) → IsCut s → n < length (pieces_of s) → per ≡ per_group s → baselines ≡ s.epoch.baselines
    → n / per / baselines < 4194304
product-small s n per baselines is inside count many =
    let found = piece-IsPiece s n is inside in
    let product : n / per / baselines ≡ n / per_group s / s.epoch.baselines =
    ap (λ (d : ℕ). n / d / baselines) count ∙ ap (λ (b : ℕ). n / per_group s / b) many in
    let each : s.epoch.baselines * 1 ≤ s.epoch.baselines * s.epoch.lags = mul-le-mul_left s.epoch.baselines (omega (arith, is.epoch.lags.some)) in
    let all : s.epoch.products * 1 ≤ s.epoch.products * (s.epoch.baselines * s.epoch.lags) =
    mul-le-mul_left s.epoch.products (omega (arith, each, is.epoch.baselines)) in
    omega (arith, product, found.product, all, is.epoch.cells)
