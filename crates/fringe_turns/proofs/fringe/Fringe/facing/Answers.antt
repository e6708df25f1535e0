use Rattle.std.proofs.Common.{◌≡◌, ◌*◌, ◌^◌, ◌≤◌, pos, unsigned_abs, w64, FitsSigned, sym, ap, ◌∙◌, arith}
use Rattle.std.specs.Int.{w128, int_div_euclid, int_rem_euclid}
use Rattle.std.proofs.lemmas.Int.{ints, to_z-of_z}
use Rattle.fringe_turns.specs.Eighths.{ahead_of, facing_of}
use Rattle.fringe_turns.proofs.QuotientLemmas.{floor-within}
use Rattle.fringe_turns.proofs.Eighths.{direction-eighths}
use Rattle.fringe_turns.proofs.fringe.Fringe.facing.Goals as goal

pub returns : goal.returns
returns c =
    let f = c.args.self.now in
    let x = c.args.delay in
    let a = c.ahead.result in
    let parts = c.parts_of-parts.result in
    let fits_x : FitsSigned w64 x = c.ranges.delay in
    let a_is : a ≡ ahead_of f x = simp to_z-of_z at c.ahead.ensures.value in
    let fits_a : FitsSigned w128 a = omega (arith, ints, c.ahead.ensures.bound) in
    let whole : parts.whole ≡ int_div_euclid a (pos (f.rate * 2 ^ 33)) = simp to_z-of_z at c.parts_of-parts.ensures.whole in
    let past : int_rem_euclid a (pos (f.rate * 2 ^ 33)) ≡ pos parts.past = simp to_z-of_z at c.parts_of-parts.ensures.past in
    let small : unsigned_abs parts.whole ≤ unsigned_abs a = rw whole (floor-within a (f.rate * 2 ^ 33) (omega (arith, f.some))) in
    let fits_whole : FitsSigned w128 parts.whole = omega (arith, ints, small, c.ahead.ensures.bound) in
    let rem : c.rem_euclid.result ≡ int_rem_euclid parts.whole (pos 8) = simp to_z-of_z at c.rem_euclid.ensures.value in
    let fits_rem : FitsSigned w128 c.rem_euclid.result = omega (arith, ints, c.rem_euclid.ensures.lower_bound, c.rem_euclid.ensures.upper_bound) in
    let turned : unsigned_abs c.rem_euclid.result ≡ facing_of f x =
    ap unsigned_abs (rem ∙ ap (λ z. int_rem_euclid z (pos 8)) (whole ∙ ap (λ z. int_div_euclid z (pos (f.rate * 2 ^ 33))) a_is))
    ∙ sym (direction-eighths f.hertz f.upper f.rate x f.some) in
    record {
      direction = simp to_z-of_z turned;
      past = ap (λ z. int_rem_euclid z (pos (f.rate * 2 ^ 33))) (sym a_is) ∙ past;
      left = omega (arith, c.from.ensures, c.parts_of-parts.ensures.within);
    }
