use Rattle.std.proofs.Common.{rules, of_calls}
use Rattle.std.proofs.lemmas.List.Sorted.{IsPartitionPoint-from_clause}
use Rattle.shard_merge.specs.CoverageOrder.{stands_before}
use Rattle.shard_merge.proofs.coverage.number_before.Goals as goal

pub returns-clause-point : goal.returns-clause-point
returns-clause-point c parted =
    IsPartitionPoint-from_clause (stands_before c.args.number c.args.m) c.args.kept.now c.partition_point.result c.partition_point.ensures.partitioned parted
    (λ a r f k. first_of (search (rules, of_calls), search (rules, k)))
