-- A step for each worker that is left, and one for the call of the rest.
use Rattle.std.proofs.Common.{◌+◌, ◌*◌, length}
use Rattle.epoch_run.proofs.team.+team.Given as goal

abbrev pub decreases-join_mut+arg3 : goal.decreases-join_mut+arg3
decreases-join_mut+arg3 g l = 2 * length l.rest.now + 1

abbrev pub decreases-run_from : goal.decreases-run_from
decreases-run_from g l = 2 * length l.team.now
