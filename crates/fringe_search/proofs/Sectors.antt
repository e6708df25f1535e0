-- The sector of a rate by what is left of whole turns.
use Rattle.std.proofs.Common.{◌≡◌, ℕ, ◌+◌, ◌-◌, ◌*◌, ◌/◌, ◌%◌, ◌<◌, ℤ, pos, negsuc, ◌+ℤ◌, ◌*ℤ◌, unsigned_abs, refl, sym, ap, ◌∙◌, arith}
use Rattle.std.specs.Int.{int_div_euclid, int_rem_euclid}
use Rattle.std.proofs.Math.Nat.{suc-mul}
use Rattle.std.proofs.Math.IntN.{*ℤ_comm, pos-*ℤ-pos}
use Rattle.std.proofs.lemmas.Int.{ints}
use Rattle.std.proofs.lemmas.Nat.{div-mul-add, mod-mul-add, div_below, div-add-mod', mod_below}
use Rattle.fringe_search.proofs.IntProducts.{int_add-mul, int_mul_assoc}
use Rattle.fringe_search.specs.Sums.{sector}

-- a number split by a divisor has one quotient and one rest
pub div_unique : (w q : ℤ) (d r : ℕ) → r < d → w ≡ q *ℤ pos d +ℤ pos r → int_div_euclid w (pos d) ≡ q
div_unique w (pos q) d r h e =
    let is : w ≡ pos (q * d + r) = e in
    rw is (ap pos (div-mul-add q d r h))
div_unique w (negsuc q) d r h e =
    let is : w ≡ negsuc (q * d + (d - 1 - r)) = omega (arith, ints, suc-mul q d) in
    rw is (ap negsuc (div-mul-add q d (d - 1 - r) (omega arith)))

pub rem_unique : (w q : ℤ) (d r : ℕ) → r < d → w ≡ q *ℤ pos d +ℤ pos r → int_rem_euclid w (pos d) ≡ pos r
rem_unique w (pos q) d r h e =
    let is : w ≡ pos (q * d + r) = e in
    rw is (ap pos (mod-mul-add q d r h))
rem_unique w (negsuc q) d r h e =
    let is : w ≡ negsuc (q * d + (d - 1 - r)) = omega (arith, ints, suc-mul q d) in
    rw is (ap pos (let rest = mod-mul-add q d (d - 1 - r) (omega arith) in omega arith))

pub split : (z : ℤ) (d : ℕ) → 0 < d → z ≡ int_div_euclid z (pos d) *ℤ pos d +ℤ int_rem_euclid z (pos d)
split (pos a) d h = omega (arith, ints)
split (negsuc a) d h = omega (arith, ints)

-- What is left of whole turns of so many parts after m steps of a rate.
pub record IsRest (rate : ℤ) (m turn rest : ℕ) : Type 0 where
  pub turns : ℤ
  pub within : rest < turn
  pub is : rate *ℤ pos m ≡ turns *ℤ pos turn +ℤ pos rest

pub rest_none : (rate : ℤ) (turn : ℕ) → 0 < turn → IsRest rate 0 turn 0
rest_none rate turn h = record { turns = pos 0; within = h; is = omega (arith, ints) }

pub rest_more : (rate : ℤ) (m turn rest step next : ℕ) → IsRest rate m turn rest → pos step ≡ int_rem_euclid rate (pos turn)
    → next ≡ (rest + step) % turn → IsRest rate (m + 1) turn next
rest_more rate m turn rest step next r s n =
    let some : 0 < turn = omega (arith, r.within) in
    let q = int_div_euclid rate (pos turn) in
    let c = (rest + step) / turn in
    let whole : rate ≡ q *ℤ pos turn +ℤ pos step = split rate turn some ∙ ap (λ x. q *ℤ pos turn +ℤ x) (sym s) in
    record {
      turns = (r.turns +ℤ q) +ℤ pos c;
      within = omega (arith, n, mod_below (rest + step) turn some);
      is = moved rate m turn rest step next r.turns q c whole r.is (omega (arith, n, div-add-mod' (rest + step) turn));
    }
  where
    moved : (rate : ℤ) (m turn rest step next : ℕ) (t q : ℤ) (c : ℕ) → rate ≡ q *ℤ pos turn +ℤ pos step
        → rate *ℤ pos m ≡ t *ℤ pos turn +ℤ pos rest → c * turn + next ≡ rest + step
        → rate *ℤ pos (m + 1) ≡ (t +ℤ q +ℤ pos c) *ℤ pos turn +ℤ pos next
    moved rate m turn rest step next t q c whole is carry =
        let a = int_add-mul (t +ℤ q) (pos c) (pos turn) in
        let b = int_add-mul t q (pos turn) in
        let o = *ℤ_comm rate (pos (m + 1)) in
        let p = *ℤ_comm rate (pos m) in
        let x = int_add-mul (pos m) (pos 1) rate in
        let y : pos (m + 1) ≡ pos m +ℤ pos 1 = refl in
        rw (o, y, x, a, b) (omega (arith, ints))

scaled : (t : ℤ) (divide : ℕ) → t *ℤ pos (16 * divide) ≡ t *ℤ pos 16 *ℤ pos divide
scaled t divide = ap (λ z. t *ℤ z) (sym (pos-*ℤ-pos 16 divide)) ∙ sym (int_mul_assoc t (pos 16) (pos divide))

-- the sector, by the rest
pub sector_is : (rate : ℤ) (m divide rest : ℕ) → 0 < divide → IsRest rate m (16 * divide) rest → rest / divide ≡ sector rate divide m
unfolding sector
sector_is rate m divide rest h r =
    let k = rest / divide in
    let below : k < 16 = div_below rest divide 16 h r.within in
    let whole : rate *ℤ pos m ≡ (r.turns *ℤ pos 16 +ℤ pos k) *ℤ pos divide +ℤ pos (rest % divide) =
    apart rate m divide rest k (rest % divide) r.turns r.is (sym (div-add-mod' rest divide)) in
    let quotient = div_unique (rate *ℤ pos m) (r.turns *ℤ pos 16 +ℤ pos k) divide (rest % divide) (mod_below rest divide h) whole in
    let last = rem_unique (r.turns *ℤ pos 16 +ℤ pos k) r.turns 16 k below refl in
    sym (ap (λ z. unsigned_abs (int_rem_euclid z (pos 16))) quotient ∙ ap unsigned_abs last)
  where
    apart : (rate : ℤ) (m divide rest k low : ℕ) (t : ℤ) → rate *ℤ pos m ≡ t *ℤ pos (16 * divide) +ℤ pos rest
        → rest ≡ k * divide + low → rate *ℤ pos m ≡ (t *ℤ pos 16 +ℤ pos k) *ℤ pos divide +ℤ pos low
    apart rate m divide rest k low t is parts =
        let a = int_add-mul (t *ℤ pos 16) (pos k) (pos divide) in
        let b : t *ℤ pos (16 * divide) ≡ t *ℤ pos 16 *ℤ pos divide = scaled t divide in
        omega (arith, ints, is, a, b, parts)
