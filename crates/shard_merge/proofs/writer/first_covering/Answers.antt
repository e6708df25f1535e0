use Rattle.std.proofs.Common.{refl, arith}
use Rattle.shard_merge.proofs.WriterFirst.{first-found, first-passed, first-none}
use Rattle.shard_merge.proofs.writer.first_covering.Goals as goal

pub loop-shard-init : goal.loop-shard-init
loop-shard-init c = λ files id keeps read. refl

pub returns-then-covers-clause-first : goal.returns-then-covers-clause-first
returns-then-covers-clause-first c = λ files id keeps read.
    first-found files id c.args.plan.now c.args.number c.args.m c.args.shards.now keeps read c.loop-shard.shard-index c.shard-item.result c.covers.result
    c.loop-shard-test.true c.shard-item.is c.if-covers.true c.covers.ensures (c.loop-shard.invariant files id keeps read)

pub loop-shard-preserved : goal.loop-shard-preserved
loop-shard-preserved c = λ files id keeps read.
    first-passed files id c.args.plan.now c.args.number c.args.m c.args.shards.now keeps read c.loop-shard.shard-index c.shard-item.result c.covers.result
    c.loop-shard-test.true c.shard-item.is c.if-covers.false c.covers.ensures (c.loop-shard.invariant files id keeps read)

pub returns-clause-first : goal.returns-clause-first
returns-clause-first c = λ files id keeps read.
    first-none files id c.args.plan.now c.args.number c.args.m c.args.shards.now keeps read c.loop-shard.shard-index
    (omega (arith, c.loop-shard-test.false)) (c.loop-shard.invariant files id keeps read)
