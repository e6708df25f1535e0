use Rattle.shard_merge.proofs.CoveragePoints.{stretch-is}
use Rattle.shard_merge.proofs.CoverageReads.{read-Rise}
use Rattle.shard_merge.proofs.coverage.stretch.Goals as goal

pub returns-clause-all : goal.returns-clause-all
returns-clause-all c files id kept read =
    stretch-is c.args.number c.args.m c.as_slice-kept.result.now c.args.shard.now.kept.items c.number_before.result c.number_in.result c.as_slice-kept.ensures.value
    (read-Rise files id c.args.plan.now c.args.shard.now kept read) c.number_before.ensures.point c.number_in.ensures.point
