use Rattle.std.proofs.Common.{◌≡◌, ◌≤◌, ℤ, w64, to_z, of_z, FitsSigned, unsigned_abs, rules, sym, subst, arith}
use Rattle.std.proofs.lemmas.Int.{to_z-of_z, fits_signed_from_abs}
use Rattle.byte_lags.proofs.product.next_cell.Goals as goal

pub returns-clause-within : goal.returns-clause-within
returns-clause-within c = λ most h.
    let old = c.args.old in
    let re_fits : FitsSigned w64 c.grown.result = search rules in
    let im_fits : FitsSigned w64 c.grown-2.result = search rules in
    let re : to_z w64 (of_z w64 old.re) ≡ old.re = to_z-of_z w64 old.re (fits_signed_from_abs w64 old.re (omega (arith, c.requires.within.0))) in
    let im : to_z w64 (of_z w64 old.im) ≡ old.im = to_z-of_z w64 old.im (fits_signed_from_abs w64 old.im (omega (arith, c.requires.within.1))) in
    rw (to_z-of_z w64 c.grown.result re_fits, to_z-of_z w64 c.grown-2.result im_fits) (
      c.grown.ensures.within most (subst (λ (z : ℤ). unsigned_abs z ≤ most) (sym re) h.0),
      c.grown-2.ensures.within most (subst (λ (z : ℤ). unsigned_abs z ≤ most) (sym im) h.1),
      omega (arith, h.2),
    )
