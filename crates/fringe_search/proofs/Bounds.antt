-- No power of a lag is above its bound.
use Rattle.std.proofs.Common.{◌≡◌, ℕ, ◌+◌, ◌*◌, ◌%◌, ◌≤◌, ℤ, pos, ◌*ℤ◌, unsigned_abs, FitsSigned, w64, to_z, of_z, arith, inl, inr}
use Rattle.std.specs.List.{All}
use Rattle.std.proofs.lemmas.Bool.{cases_lt}
use Rattle.std.proofs.lemmas.Int.{ints, to_z-of_z, unsigned_abs-mul}
use Rattle.std.proofs.lemmas.Nat.{mul-le}
use Rattle.std.proofs.lemmas.List.{get_or_past}
use Rattle.std.proofs.lemmas.List.Elements.{All-get_or}
use Rattle.corr_model.specs.declared.cell.Cell.{Cell}
use Rattle.fringe_search.specs.Layout.{Series, cell_at}
use Rattle.fringe_search.specs.Sums.{cosines, cosine_of, sine_of, turned_re, turned_im, size, sector, re_at, im_at, amplitude_at, power_at, bound_at}
use Rattle.fringe_search.proofs.SumBounds.{int_sum-within}

all_turns : All (λ z. unsigned_abs z ≤ 16384) cosines
all_turns = search arith

pub cosine_of-within : (k : ℕ) → unsigned_abs (cosine_of k) ≤ 16384
cosine_of-within k = elim (cases_lt k 16) [
  | inl less ↦ All-get_or (λ z. unsigned_abs z ≤ 16384) cosines k (pos 0) less all_turns
  | inr past ↦ (let e = get_or_past cosines k (pos 0) past in rw e (omega arith))
]

product-within : (x z : ℤ) → unsigned_abs z ≤ 16384 → unsigned_abs (x *ℤ z) ≤ 16384 * unsigned_abs x
product-within x z h = omega (arith, unsigned_abs-mul x z, mul-le (unsigned_abs x) (unsigned_abs z) (unsigned_abs x) 16384 (omega arith) h)

-- what is said of a product by a cosine, said of the number itself
pub scaled_is : (x cosine result : ℤ) → FitsSigned w64 x → result ≡ to_z w64 (of_z w64 x) *ℤ cosine
    → unsigned_abs result ≤ 16384 * unsigned_abs (to_z w64 (of_z w64 x)) → (result ≡ x *ℤ cosine) × (unsigned_abs result ≤ 16384 * unsigned_abs x)
scaled_is x cosine result fits value within =
    let same = to_z-of_z w64 x fits in
    (rw same at value, rw same at within)

pub turned_re-within : (c : Cell) (k : ℕ) → unsigned_abs (turned_re c k) ≤ 16384 * size c
turned_re-within c k =
    let a = product-within c.re (cosine_of k) (cosine_of-within k) in
    let b = product-within c.im (sine_of k) (cosine_of-within ((k + 12) % 16)) in
    omega (arith, ints)

pub turned_im-within : (c : Cell) (k : ℕ) → unsigned_abs (turned_im c k) ≤ 16384 * size c
turned_im-within c k =
    let a = product-within c.im (cosine_of k) (cosine_of-within k) in
    let b = product-within c.re (sine_of k) (cosine_of-within ((k + 12) % 16)) in
    omega (arith, ints)

pub power_at-within : (v : Series) (divide lag : ℕ) (rate : ℤ) → power_at v divide lag rate ≤ bound_at v lag
unfolding power_at bound_at
power_at-within v divide lag rate =
    let b = 16384 * amplitude_at v lag in
    let re : unsigned_abs (re_at v divide lag rate) ≤ b =
    int_sum-within (λ m. turned_re (cell_at v m lag) (sector rate divide m)) (λ m. size (cell_at v m lag)) 16384 v.integrations (λ m _. turned_re-within (cell_at v m lag) (sector rate divide m)) in
    let im : unsigned_abs (im_at v divide lag rate) ≤ b =
    int_sum-within (λ m. turned_im (cell_at v m lag) (sector rate divide m)) (λ m. size (cell_at v m lag)) 16384 v.integrations (λ m _. turned_im-within (cell_at v m lag) (sector rate divide m)) in
    let re_square = mul-le _ _ b b re re in
    let im_square = mul-le _ _ b b im im in
    joined _ _ (b * b) re_square im_square
  where
    joined : (x y z : ℕ) → x ≤ z → y ≤ z → x + y ≤ 2 * z
    joined x y z p q = omega arith
