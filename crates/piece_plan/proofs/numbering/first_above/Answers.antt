use Rattle.std.proofs.Common.{ℕ, leb, rules}
use Rattle.std.proofs.lemmas.List.Sorted.{IsPartitionedBy-leb, IsPartitionPoint-from_clause}
use Rattle.piece_plan.proofs.AboveLemmas.{first_above}
use Rattle.piece_plan.proofs.numbering.first_above.Goals as goal

pub returns : goal.returns
returns c =
    let found = first_above c.args.ends.now c.args.i c.partition_point.result c.requires.last
    (IsPartitionPoint-from_clause (λ (y : ℕ). leb y c.args.i) c.args.ends.now c.partition_point.result c.partition_point.ensures.partitioned
    (IsPartitionedBy-leb (λ x. x) c.args.ends.now c.args.i c.requires.sorted)
    (λ a r f called. search (rules, called))) c.partition_point.ensures.bound c.requires.some in
    record { within = found.within; above = found.above; before = found.before }
