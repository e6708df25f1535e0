use Rattle.std.proofs.Common.{◌≡◌, ℕ, ◌*◌, ◌^◌, ◌<◌, ℤ, pos, ◌-ℤ◌, ◌*ℤ◌, unsigned_abs, FitsSigned, sym, ap, ◌∙◌, arith}
use Rattle.std.specs.Int.{w128}
use Rattle.std.proofs.lemmas.Int.{ints, to_z-of_z}
use Rattle.fringe_turns.proofs.QuotientLemmas.{rest_left, rest-below}
use Rattle.fringe_turns.proofs.fringe.past_parts.Goals as goal

-- what is taken away fits, and so does what is left
fits_taken : (n p : ℤ) (r : ℕ) → unsigned_abs n < 2 ^ 105 → r < 2 ^ 65 → n -ℤ p ≡ pos r → FitsSigned w128 p
fits_taken n p r small less is = omega (arith, ints)

fits_left : (z : ℤ) (r : ℕ) → r < 2 ^ 65 → z ≡ pos r → FitsSigned w128 z
fits_left z r less is = omega (arith, ints)

pub returns-clause-past : goal.returns-clause-past
returns-clause-past c =
    let n = c.args.number in
    let w = c.args.whole in
    let e = c.eighth.result in
    let is : e ≡ pos (c.args.rate * 2 ^ 33) = c.eighth.ensures in
    let left = rest_left n w (c.args.rate * 2 ^ 33) (omega (arith, c.requires.rate)) c.requires.whole in
    let rest : n -ℤ w *ℤ e ≡ pos left.0 = rw is left.3 in
    let less : left.0 < 2 ^ 65 = omega (arith, left.2) in
    let fits_n : FitsSigned w128 n = c.ranges.number in
    let fits_w : FitsSigned w128 w = c.ranges.whole in
    let fits_e : FitsSigned w128 e = omega (arith, ints, is) in
    let fits_p : FitsSigned w128 (w *ℤ e) = fits_taken n (w *ℤ e) left.0 c.requires.number less rest in
    let fits_r : FitsSigned w128 (n -ℤ w *ℤ e) = fits_left (n -ℤ w *ℤ e) left.0 less rest in
    let value : c.unsigned_abs.result ≡ unsigned_abs (n -ℤ w *ℤ e) = simp to_z-of_z at c.unsigned_abs.ensures.value in
    left.1 ∙ sym (ap pos (value ∙ ap unsigned_abs rest))

pub returns-clause-within : goal.returns-clause-within
returns-clause-within c =
    rest-below c.args.number (c.args.rate * 2 ^ 33) c.unsigned_abs.result (omega (arith, c.requires.rate)) (returns-clause-past c)
