use Rattle.std.proofs.Common.{◌≡◌, ◌^◌, ◌*ℤ◌, ◌≤◌, pos, w64, FitsSigned, unsigned_abs, arith}
use Rattle.std.specs.Int.{w128, int_div_euclid}
use Rattle.std.proofs.lemmas.Int.{ints, to_z-of_z}
use Rattle.station_clock.proofs.Drifts.{drift_small}
use Rattle.station_clock.proofs.clock.clock_at.Goals as goal

drift_is : (c : goal.After-drift) → c.drift.result ≡ int_div_euclid (c.args.e.now.c1 *ℤ c.args.u) (pos c.args.rate)
drift_is c =
    let rate : FitsSigned w64 c.args.e.now.c1 = omega (arith, ints, c.requires.drift) in
    let at_u : FitsSigned w128 c.args.u = c.ranges.u in
    simp to_z-of_z at c.drift.ensures

drift_bound : (c : goal.After-drift) → unsigned_abs c.drift.result ≤ 2 ^ 57
drift_bound c = drift_small c.drift.result c.args.e.now.c1 c.args.u c.args.rate (drift_is c) c.requires.drift c.requires.begun c.requires.within

pub overflow_cast-result : goal.overflow_cast-result
overflow_cast-result c = omega (arith, ints, drift_bound c)

pub overflow_add-result : goal.overflow_add-result
overflow_add-result c = omega (arith, ints, drift_bound c)

pub returns-clause-value : goal.returns-clause-value
returns-clause-value c = rw (← drift_is c) (omega (arith, ints, drift_bound c))

pub returns-clause-bound : goal.returns-clause-bound
returns-clause-bound c = omega (arith, ints, drift_bound c)
