use Rattle.std.proofs.Common.{◌∙◌, ◌+◌, ◌<◌, ◌^◌, ℕ, List, [], ◌∷◌, take, length, sym, subst, ap}
use Rattle.std.specs.List.{All, AllZip}
use Rattle.std.specs.Str.{IsUtf8}
use Rattle.std.proofs.lemmas.List.{length-append}
use Rattle.std.proofs.lemmas.List.Elements.{All-push}
use Rattle.dev_traits.proofs.ToldLemmas.{WhereTold-weaker}
use Rattle.run_ready.specs.Sizes.{no_file, no_file_of}
use Rattle.run_ready.proofs.ToldLemmas.{WhereTold-then}
use Rattle.run_ready.proofs.FirstLemmas.{told-next, IsFirst-no_file_of}
use Rattle.run_merge.specs.Shards.{IsSizeOf}
use Rattle.run_merge.proofs.ShardLemmas.{no_file-sized, AllZip-more}
use Rattle.run_merge.proofs.sizes.sizes_of_files.Goals as goal

pub file_size-requires : goal.file_size-requires
file_size-requires g c = record {
  text = subst IsUtf8 (sym c.name-item.is) (c.requires.texts c.loop-name.name-index c.name-item.result c.loop-name-test.true);
}

pub loop-name-preserved : goal.loop-name-preserved
loop-name-preserved g c =
    let sizes = c.loop-name.sizes.items in
    let size = c.in_ok-size.size in
    record {
      same = c.file_size.ensures.same ∙ c.loop-name.invariant.same;
      faults = c.in_ok-size.ensures.counts ∙ c.loop-name.invariant.faults;
      counted = ap length c.in_ok-add.ensures ∙ length-append sizes (size ∷ []) ∙ ap (λ (n : ℕ). n + 1) c.loop-name.invariant.counted;
      bounds =
          subst (All (λ (n : ℕ). n < 2 ^ 63)) (sym c.in_ok-add.ensures)
          (All-push (λ (n : ℕ). n < 2 ^ 63) sizes size c.loop-name.invariant.bounds c.in_ok-size.ensures.bound);
      sizes =
          WhereTold-then (g.F.Shelf.told c.args.shelf.now) (g.F.Shelf.told c.loop-name.shelf) _ _ _
          (λ files are is. subst (λ (ns : List ℕ). AllZip (IsSizeOf files) (take (c.loop-name.name-index + 1) c.args.names.now) ns) (sym c.in_ok-add.ensures)
          (AllZip-more (IsSizeOf files) c.args.names.now sizes c.loop-name.name-index c.name-item.result size c.loop-name-test.true c.name-item.is are is))
          c.loop-name.invariant.same c.loop-name.invariant.sizes c.in_ok-size.ensures.size;
      first =
          told-next no_file no_file_of IsFirst-no_file_of c.args.names.now c.loop-name.name-index c.name-item.result c.loop-name-test.true c.name-item.is
          c.loop-name.invariant.same c.loop-name.invariant.first
          (WhereTold-weaker (g.F.Shelf.told c.loop-name.shelf) _ _ (λ files is. no_file-sized files c.name-item.result size is) c.in_ok-size.ensures.size);
    }
