use Rattle.std.proofs.Common.{◌∙◌, sym, rules, arith}
use Rattle.checkpoint_journal.proofs.ToldLemmas.{told_again}
use Rattle.shard_merge.proofs.CellsParts.{told_added}
use Rattle.shard_merge.proofs.cells.add_all.Goals as goal

pub loop-one-preserved : goal.loop-one-preserved
loop-one-preserved g c = record {
  same = c.add_epoch.ensures.same ∙ c.loop-one.invariant.same;
  stays = g.met.D.Disk.stays_on.both _ _ _ c.loop-one.invariant.stays c.add_epoch.ensures.stays;
  faults = search rules;
  added = told_added (g.D.Disk.seen c.args.disk.now) c.args.kept.now c.loop-one.one-index _ c.args.sums.now c.loop-one.sums c.add_epoch.new.sums
      (omega arith) c.loop-one.invariant.added
      (told_again _ _ _ (sym c.loop-one.invariant.same) c.in_ok-add_epoch.ensures.sums);
}
