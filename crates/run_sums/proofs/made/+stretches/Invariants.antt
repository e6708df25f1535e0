-- A step for each thread that may be begun, and one for the call of the rest.
use Rattle.std.proofs.Common.{◌*◌, ◌-◌}
use Rattle.run_sums.proofs.made.+stretches.Given as goal

abbrev pub decreases-fill_on : goal.decreases-fill_on
decreases-fill_on g l = 2 * l.left

abbrev pub decreases-join_mut+arg3 : goal.decreases-join_mut+arg3
decreases-join_mut+arg3 g l = 2 * l.left - 1

abbrev pub decreases-join_mut+arg3+2 : goal.decreases-join_mut+arg3+2
decreases-join_mut+arg3+2 g l = 2 * l.left - 1
