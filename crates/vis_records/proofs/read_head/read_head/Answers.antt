use Rattle.std.proofs.Common.{rules}
use Rattle.vis_records.specs.Parts.{chain}
use Rattle.vis_records.proofs.ScanForms.{head-is}
use Rattle.vis_records.proofs.read_head.read_head.Goals as goal

pub new-requires : goal.new-requires
unfolding chain
new-requires c = (head-is c.args.rest.now _ c.read_scans.new.rest c.requires (search rules)).good
