use Rattle.std.specs.Prelude.{MatchOption}
use Rattle.std.proofs.Common.{◌≡◌, ◌≢◌, [], ◌∷◌, ◌++◌, ℕ, List, ◌∙◌, FitsSigned, w64, subst, append_assoc, rules}
use Rattle.std.specs.Fmt.{signed_decimal}
use Rattle.std.proofs.lemmas.Int.{to_z-of_z}
use Rattle.fringe_search.proofs.Strips.{strips_more, parted}
use Rattle.fringe_search.proofs.read.strip_sum.Goals as goal

pub returns-in_err-middle : goal.returns-in_err-middle
returns-in_err-middle c = rw c.from_residual.ensures (λ rest e.
    let re_fits : FitsSigned w64 c.args.sum.re = search rules in
    (rw (to_z-of_z w64 c.args.sum.re re_fits) at c.in_err-middle.ensures) ((signed_decimal c.args.sum.im ++ 10 ∷ []) ++ rest)
    (e ∙ parted (signed_decimal c.args.sum.re) 32 (signed_decimal c.args.sum.im ++ 10 ∷ []) rest))

pub returns : goal.returns
returns c =
    let re = c.args.sum.re in
    let im = c.args.sum.im in
    let re_fits : FitsSigned w64 re = search rules in
    let im_fits : FitsSigned w64 im = search rules in
    subst (λ (w : List ℕ). MatchOption c.strip_signed-2.result ((rest : List ℕ) → c.args.text.now ≢ w ++ rest) (λ x. c.args.text.now ≡ w ++ x.now))
    (append_assoc (signed_decimal re) (32 ∷ []) (signed_decimal im ++ 10 ∷ []))
    (strips_more c.args.text.now (signed_decimal re ++ 32 ∷ []) c.in_ok-middle.middle.now (signed_decimal im ++ 10 ∷ []) c.strip_signed-2.result
    (rw (to_z-of_z w64 re re_fits) at c.in_ok-middle.ensures)
    (rw (to_z-of_z w64 im im_fits) at c.strip_signed-2.ensures))
