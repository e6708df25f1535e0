use Rattle.std.proofs.Common.{ℕ, ◌+◌, w32, Fits, arith, sym, subst, ap, ◌∙◌, zero-add, map-id}
use lib.LanesLaws.{fold-sum}
use lib.Lanes.{Steps, fold_l, sum_l}
use Rattle.std.proofs.lemmas.Simd.{sum_fits, sum_bound}
use Rattle.byte_sums.proofs.Small.{wide-fit, lane-most}
use Rattle.byte_sums.proofs.shorts.total.Goals as goal

pub overflow_cast-result : goal.overflow_cast-result
overflow_cast-result c = wide-fit c.args.sums c.fits-sums.1

pub overflow_add-result : goal.overflow_add-result
overflow_add-result c =
    subst (λ l. Steps (λ (s x : ℕ). Fits w32 (s + x)) (λ (s x : ℕ). s + x) 0 l) (sym (map-id c.args.sums))
    (sum_fits w32 0 c.args.sums (omega (arith, sum_bound 65535 c.args.sums (lane-most c.args.sums c.fits-sums.1), c.fits-sums.0)))

pub returns : goal.returns
returns c = ap (fold_l (λ (s x : ℕ). s + x) 0) (map-id c.args.sums) ∙ fold-sum 0 c.args.sums ∙ zero-add (sum_l c.args.sums)
