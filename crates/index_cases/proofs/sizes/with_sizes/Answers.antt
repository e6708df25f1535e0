use Rattle.std.proofs.Common.{◌∙◌}
use Rattle.index_cases.proofs.SizeLemmas.{push_on}
use Rattle.index_cases.proofs.sizes.with_sizes.Goals as goal

pub loop-name-preserved : goal.loop-name-preserved
loop-name-preserved g c = record {
  same = c.in_ok-file.ensures.same ∙ c.loop-name.invariant.same;
  sizes = push_on (g.F.Shelf.told c.args.shelf.now) (g.F.Shelf.told c.loop-name.shelf) c.loop-name.files.items _ c.in_ok-file.file c.loop-name.invariant.same
      c.in_ok-push.ensures.items c.loop-name.invariant.sizes c.in_ok-file.ensures.size;
}
