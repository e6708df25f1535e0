use Rattle.std.proofs.Common.{◌∙◌, ap}
use Rattle.vis_writer.specs.PlanCells.{pair_of}
use Rattle.std.proofs.Common.{map}
use Rattle.vis_writer.proofs.PlanHead.{head_scan-made}
use Rattle.vis_writer.proofs.head.scan_by.Goals as goal

pub returns : goal.returns
returns c =
    head_scan-made c.args.scan.now c.in_ok-name_of.field-0 c.from.result c.in_ok-baselines_of.field-0 c.in_ok-name_of.ensures c.from.ensures
    (c.in_ok-baselines_of.ensures ∙ ap (map pair_of) c.items.ensures)
