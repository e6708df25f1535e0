use Rattle.std.proofs.Common.{◌≡◌, ◌*◌, ◌≤◌, unsigned_abs}
use Rattle.fringe_search.specs.Sums.{re_over, im_over, size_over}
use Rattle.fringe_search.specs.Phases.{IsPhase, rest_of}
use Rattle.fringe_search.proofs.Sectors.{IsRest}
use Rattle.fringe_search.proofs.sums.sum_at.Given as goal

abbrev pub invariant-loop-m : goal.invariant-loop-m
invariant-loop-m l = record {
  re : l.sum.re ≡ re_over l.series l.grid.divide l.lag l.fn.rate l.m;
  im : l.sum.im ≡ im_over l.series l.grid.divide l.lag l.fn.rate l.m;
  re_within : unsigned_abs l.sum.re ≤ 16384 * size_over l.series l.lag l.m;
  im_within : unsigned_abs l.sum.im ≤ 16384 * size_over l.series l.lag l.m;
  phase : IsPhase l.grid.divide l.phase;
  rest : IsRest l.fn.rate l.m (16 * l.grid.divide) (rest_of l.grid.divide l.phase);
}
