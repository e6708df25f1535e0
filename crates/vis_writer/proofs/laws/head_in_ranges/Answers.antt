use Rattle.vis_writer.proofs.PlanHead.{head_is}
use Rattle.vis_writer.proofs.laws.head_in_ranges.Goals as goal

pub returns : goal.returns
returns c plan is few = head_is plan is few
