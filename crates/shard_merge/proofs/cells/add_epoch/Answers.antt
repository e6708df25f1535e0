use Rattle.std.proofs.Common.{◌≡◌, ◌∙◌, ◌+◌, ◌*◌, ◌≤◌, ◌⊎◌, length, refl, sym, rules, arith}
use Rattle.dev_traits.proofs.ToldLemmas.{WhereTold-weaker}
use Rattle.piece_plan.specs.Epochs.{cell_count}
use Rattle.job_epochs.specs.Added.{add_cells}
use Rattle.checkpoint_journal.specs.Cells.{cells_at}
use Rattle.checkpoint_journal.proofs.ToldLemmas.{told_again}
use Rattle.shard_merge.specs.Adding.{cells_in, added_part}
use Rattle.shard_merge.proofs.CellsParts.{add_cells-start, told_sums, add_cells-whole, told_always}
use Rattle.shard_merge.proofs.cells.add_epoch.Goals as goal

pub loop-done-init : goal.loop-done-init
loop-done-init g c = record {
  same = refl;
  stays = g.met.D.Disk.stays_on.none _;
  faults = refl;
  within = omega arith;
  size = refl;
  added = told_always (g.D.Disk.seen c.args.disk.now) (λ image. c.args.sums.now ≡ add_cells c.args.sums.now (cells_at image c.args.kept.now.at 0)) (λ image. add_cells-start c.args.sums.now image c.args.kept.now.at);
}

pub loop-done-preserved : goal.loop-done-preserved
loop-done-preserved g c =
    let xs = c.args.sums.now in
    let done = c.loop-done.done in
    let more = c.min-more.result in
    record {
      same = c.add_part.ensures.same ∙ c.loop-done.invariant.same;
      stays = g.met.D.Disk.stays_on.both _ _ _ c.loop-done.invariant.stays c.add_part.ensures.stays;
      faults = search rules;
      within = omega arith;
      size = search rules;
      added = told_sums (g.D.Disk.seen c.args.disk.now) done more c.args.kept.now xs c.loop-done.sums c.add_part.new.sums
          (omega (arith, c.loop-done.invariant.size)) c.loop-done.invariant.added
          (told_again _ _ (λ image. c.add_part.new.sums ≡ added_part c.loop-done.sums done more (cells_at image (c.args.kept.now.at + 24 * done) more))
          (sym c.loop-done.invariant.same) c.in_ok-add_part.ensures.sums);
    }

pub returns-clause-sums : goal.returns-clause-sums
returns-clause-sums g c =
    let xs = c.args.sums.now in
    let a = c.args.kept.now in
    let done = c.loop-done.done in
    let end : (done ≡ cell_count a.epoch) ⊎ (length xs ≤ done) = grind arith in
    WhereTold-weaker (g.D.Disk.seen c.args.disk.now) (λ image. c.loop-done.sums ≡ add_cells xs (cells_at image a.at done)) (λ image. c.loop-done.sums ≡ add_cells xs (cells_in image a))
    (λ image is. is ∙ add_cells-whole image a xs done (omega (arith, c.cells.ensures)) end)
    c.loop-done.invariant.added
