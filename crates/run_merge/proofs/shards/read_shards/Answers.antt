use Rattle.std.proofs.Common.{◌≡◌, ◌∙◌, ◌+◌, ℕ, List, [], ◌∷◌, ◌++◌, map, take, get_or, Some, sym, subst, arith}
use Rattle.std.specs.List.{All, AllZip}
use Rattle.std.specs.Str.{IsUtf8}
use Rattle.std.proofs.lemmas.List.{take_all}
use Rattle.std.proofs.lemmas.List.Elements.{All-push}
use Rattle.std.proofs.lemmas.Result.{err_from_is_err_and}
use Rattle.dev_traits.specs.Files.{size_of}
use Rattle.dev_traits.proofs.ToldLemmas.{WhereTold-weaker}
use Rattle.journal_image.specs.Image.{KeptEpoch}
use Rattle.shard_merge.specs.declared.shard.Shard.{Shard}
use Rattle.shard_merge.specs.Reading.{IsListed, AreReadFrom}
use Rattle.run_ready.proofs.ToldLemmas.{WhereTold-moved, WhereTold-then}
use Rattle.run_merge.specs.Shards.{IsSizeOf}
use Rattle.run_merge.proofs.ShardLemmas.{AllZip-get_or, AreReadFrom-more, AreShardsOf-read, cause-at, names-more}
use Rattle.run_merge.proofs.shards.read_shards.Goals as goal

pub read_one-requires-clause-text : goal.read_one-requires-clause-text
read_one-requires-clause-text g c = subst IsUtf8 (sym c.index-names-i.is) (c.requires.texts c.loop-i.i c.index-names-i.result c.loop-i-test.true)

pub read_one-requires-clause-size : goal.read_one-requires-clause-size
read_one-requires-clause-size g c =
    let i = c.loop-i.i in
    let told = g.F.Shelf.told in
    WhereTold-moved (told c.loop-i.shelf) (told c.args.shelf.now) _ (sym c.loop-i.invariant.same)
    (WhereTold-weaker (told c.args.shelf.now) (λ files. AllZip (IsSizeOf files) c.args.names.now c.args.sizes.now)
    (λ files. size_of (files c.index-names-i.result) ≡ Some (get_or c.args.sizes.now i 0))
    (λ files all. subst (λ (n : List ℕ). size_of (files n) ≡ Some (get_or c.args.sizes.now i 0)) (sym c.index-names-i.is)
    (AllZip-get_or (IsSizeOf files) c.args.names.now c.args.sizes.now i c.index-names-i.result 0 c.loop-i-test.true all))
    c.requires.sizes)

pub returns-in_err-shard-clause-cause : goal.returns-in_err-shard-clause-cause
returns-in_err-shard-clause-cause g c =
    let told = g.F.Shelf.told in
    let p = err_from_is_err_and c.from_residual.result c.from_residual.ensures.1 in
    rw (p.1, p.2)
    (WhereTold-then (told c.args.shelf.now) (told c.loop-i.shelf) _ _ _
    (λ files are cause. cause-at files c.args.id.now c.args.plan.now c.in_err-shard.field-0.0 c.in_err-shard.ensures.stage c.args.names.now
    c.loop-i.i c.index-names-i.result c.loop-i.shards.items are.0 c.loop-i-test.true c.index-names-i.is c.loop-i.invariant.names are.1 cause)
    c.loop-i.invariant.same c.loop-i.invariant.read c.in_err-shard.ensures.cause)

pub loop-i-preserved : goal.loop-i-preserved
loop-i-preserved g c =
    let i = c.loop-i.i in
    let shards = c.loop-i.shards.items in
    let shard = c.in_ok-shard.shard in
    let told = g.F.Shelf.told in
    record {
      same = c.read_one.ensures.same ∙ c.loop-i.invariant.same;
      faults = c.in_ok-shard.ensures.counts ∙ c.loop-i.invariant.faults;
      listed =
          subst (All (IsListed c.args.plan.now)) (sym c.in_ok-add.ensures)
          (All-push (IsListed c.args.plan.now) shards shard c.loop-i.invariant.listed c.in_ok-shard.ensures.listed);
      names =
          subst (λ (ss : List Shard). map (λ (s : Shard). s.name) ss ≡ take (i + 1) c.args.names.now) (sym c.in_ok-add.ensures)
          (names-more shards shard c.args.names.now i c.index-names-i.result c.loop-i-test.true c.index-names-i.is
          c.loop-i.invariant.names c.in_ok-shard.ensures.name);
      read =
          WhereTold-then (told c.args.shelf.now) (told c.loop-i.shelf) _ _ _
          (λ files are is. subst
          (λ (ss : List Shard). (keeps : List (List KeptEpoch)) × AreReadFrom files c.args.id.now c.args.plan.now ss keeps)
          (sym c.in_ok-add.ensures)
          (are.0 ++ is.0 ∷ [], AreReadFrom-more files c.args.id.now c.args.plan.now shards are.0 shard is.0 are.1 is.1))
          c.loop-i.invariant.same c.loop-i.invariant.read c.in_ok-shard.ensures.read;
    }

pub returns-clause-read : goal.returns-clause-read
returns-clause-read g c =
    WhereTold-weaker (g.F.Shelf.told c.args.shelf.now) _ _
    (λ files are. (
      are.0,
      AreShardsOf-read files c.args.id.now c.args.plan.now c.args.names.now c.loop-i.shards.items are.0
          (c.loop-i.invariant.names ∙ take_all c.loop-i.i c.args.names.now (omega arith)) are.1,
    ))
    c.loop-i.invariant.read
