-- A step for each row that is left, and one for the call of the rest.
use Rattle.std.proofs.Common.{◌+◌, ◌*◌, length}
use Rattle.run_sums.proofs.made.+groups.Given as goal

abbrev pub decreases-join_mut+arg3 : goal.decreases-join_mut+arg3
decreases-join_mut+arg3 g l = 2 * length l.rest.now + 1

abbrev pub decreases-fill_groups : goal.decreases-fill_groups
decreases-fill_groups g l = 2 * length l.rows.now
