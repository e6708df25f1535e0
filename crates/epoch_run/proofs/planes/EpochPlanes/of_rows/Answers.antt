use Rattle.std.proofs.lemmas.List.{length-map}
use Rattle.std.proofs.Common.{◌∙◌}
use Rattle.epoch_run.proofs.RowPlanes.{AllLevelled-rows}
use Rattle.epoch_run.proofs.planes.EpochPlanes.of_rows.Goals as goal

pub invariant_of-result-2 : goal.invariant_of-result-2
invariant_of-result-2 c = AllLevelled-rows c.args.from c.args.chans c.args.rows.items _ c.in_ok-stations.ensures.rows

pub returns-clause-count : goal.returns-clause-count
returns-clause-count c = length-map _ _ ∙ c.in_ok-stations.ensures.count
