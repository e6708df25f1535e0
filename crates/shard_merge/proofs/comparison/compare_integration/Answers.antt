use Rattle.std.proofs.Common.{◌∙◌, refl}
use Rattle.shard_merge.specs.Verdict.{verdict_at, IsVerdict}
use Rattle.shard_merge.specs.CompareSteps.{cells_of, Stands}
use Rattle.shard_merge.proofs.CompareShards.{Knows-weaker, Knows-shard, Knows-begin, Knows-end}
use Rattle.shard_merge.proofs.comparison.compare_integration.Goals as goal

pub loop-shard-init : goal.loop-shard-init
loop-shard-init g c = record {
  within = tt;
  same = refl;
  kept = refl;
  stands =
      Knows-begin (g.F.Shelf.told c.args.shelf.now) c.args.plan.now c.args.shards.now c.args.number c.args.m _ c.args.first.now refl refl;
}

pub loop-shard-preserved : goal.loop-shard-preserved
loop-shard-preserved g c =
    let before = c.loop-shard.invariant in
    record {
      within = c.in-Ok.ensures.within;
      same = c.in-Ok.ensures.same ∙ before.same;
      kept = c.in-Ok.ensures.counts.kept ∙ before.kept;
      stands =
          Knows-shard (g.F.Shelf.told c.args.shelf.now) (g.F.Shelf.told c.loop-shard.shelf) c.args.plan.now c.args.shards.now c.args.number
          c.args.m c.loop-shard.shard-index c.shard-item.result c.loop-shard.found c.in-Ok.next c.loop-shard.first c.after_shard.new.first
          before.same c.loop-shard-test.true c.shard-item.is before.stands c.in-Ok.ensures.stands;
    }

pub returns-clause-verdict : goal.returns-clause-verdict
returns-clause-verdict g c =
    let told = g.F.Shelf.told c.args.shelf.now in
    let plan = c.args.plan.now in
    let shards = c.args.shards.now in
    Knows-weaker told plan shards (λ keeps. Stands c.loop-shard.found c.loop-shard.first (cells_of plan c.args.number c.args.m keeps))
    (λ keeps. IsVerdict (verdict_at plan keeps c.args.i (c.args.number, c.args.m)) c.told.result)
    (λ keeps stands. c.told.ensures.verdict c.loop-shard.first (cells_of plan c.args.number c.args.m keeps) stands)
    (Knows-end told plan shards c.args.number c.args.m c.loop-shard.shard-index c.loop-shard.found c.loop-shard.first c.loop-shard-test.false
    c.loop-shard.invariant.stands)
