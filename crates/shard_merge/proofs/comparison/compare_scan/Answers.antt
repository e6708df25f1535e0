use Rattle.std.proofs.Common.{◌∙◌, refl}
use Rattle.std.proofs.lemmas.Result.{err_from_is_err_and}
use Rattle.shard_merge.proofs.CompareWalks.{IsLeftInScan-begin, IsLeftInScan-more, IsLeftInScan-fault, IsLeftInScan-end}
use Rattle.shard_merge.proofs.comparison.compare_scan.Goals as goal

pub loop-k-init : goal.loop-k-init
loop-k-init g c = record {
  same = refl;
  kept = refl;
  left =
      IsLeftInScan-begin (g.F.Shelf.told c.args.shelf.now) c.args.plan.now c.args.shards.now c.args.number c.args.i c.args.from c.args.count;
}

pub loop-k-preserved : goal.loop-k-preserved
loop-k-preserved g c =
    let before = c.loop-k.invariant in
    record {
      same = c.in_ok-compare_integration.ensures.same ∙ before.same;
      kept = c.in_ok-compare_integration.ensures.counts ∙ before.kept;
      left =
          IsLeftInScan-more (g.F.Shelf.told c.args.shelf.now) (g.F.Shelf.told c.loop-k.shelf) c.args.plan.now c.args.shards.now
          c.args.number c.args.i c.args.from c.args.count c.loop-k.k before.same c.loop-k-test.true before.left
          c.in_ok-compare_integration.ensures.verdict;
    }

pub returns-in_err-compare_integration-clause-verdict : goal.returns-in_err-compare_integration-clause-verdict
returns-in_err-compare_integration-clause-verdict g c =
    let before = c.loop-k.invariant in
    let p = err_from_is_err_and c.from_residual.result c.from_residual.ensures.1 in
    rw (p.1, p.2)
    (IsLeftInScan-fault (Unit {0}) (g.F.Shelf.told c.args.shelf.now) (g.F.Shelf.told c.loop-k.shelf) c.args.plan.now c.args.shards.now
    c.args.number c.args.i c.args.from c.args.count c.loop-k.k _ before.same c.loop-k-test.true before.left
    c.in_err-compare_integration.ensures.verdict)

pub returns-clause-verdict : goal.returns-clause-verdict
returns-clause-verdict g c =
    IsLeftInScan-end (g.F.Shelf.told c.args.shelf.now) c.args.plan.now c.args.shards.now c.args.number c.args.i c.args.from c.args.count
    c.loop-k.k c.loop-k-test.false c.loop-k.invariant.left
