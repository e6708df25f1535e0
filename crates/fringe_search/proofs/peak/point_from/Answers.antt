use Rattle.std.proofs.Common.{ap₂, ◌∙◌, sym, w32, subst, ℤ, arith}
use Rattle.std.proofs.lemmas.Int.{to_z-of_z}
use Rattle.fringe_search.specs.Sums.{power_of, power_at}
use Rattle.fringe_search.specs.Peaks.{IsRate}
use Rattle.fringe_search.proofs.Gathered.{re-alike, im-alike, amplitude-alike}
use Rattle.fringe_search.proofs.peak.point_from.Goals as goal

pub sum_at-sum-requires-clause-small : goal.sum_at-sum-requires-clause-small
sum_at-sum-requires-clause-small c =
    omega (arith, amplitude-alike c.args.series.now c.args.lag c.args.cells.now c.args.number c.requires.cells, c.requires.small c.args.lag c.requires.lag)

pub returns-clause-point : goal.returns-clause-point
unfolding power_at
returns-clause-point c =
    let same = to_z-of_z w32 c.args.rate c.ranges.rate in
    let alike = c.requires.cells in
    let re = c.sum_at-sum.ensures.re ∙ re-alike c.args.series.now c.args.lag c.args.cells.now c.args.number c.args.grid.now.divide _ alike in
    let im = c.sum_at-sum.ensures.im ∙ im-alike c.args.series.now c.args.lag c.args.cells.now c.args.number c.args.grid.now.divide _ alike in
    record {
      lag = c.requires.lag;
      rate = subst (λ (r : ℤ). IsRate c.args.grid.now.rates r) (sym same) c.requires.rate;
      re = re;
      im = im;
      power = c.power.ensures ∙ ap₂ power_of re im;
    }
