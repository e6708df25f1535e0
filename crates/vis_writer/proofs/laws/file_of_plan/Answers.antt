use Rattle.vis_writer.proofs.PlanText.{output-numbered}
use Rattle.vis_writer.proofs.laws.file_of_plan.Goals as goal

pub returns : goal.returns
returns c plan files = output-numbered plan files
