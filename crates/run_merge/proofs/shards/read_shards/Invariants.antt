use Rattle.std.proofs.Common.{◌≡◌, List, map, take}
use Rattle.std.specs.List.{All}
use Rattle.dev_traits.specs.Told.{WhereTold}
use Rattle.journal_image.specs.Image.{KeptEpoch}
use Rattle.shard_merge.specs.declared.shard.Shard.{Shard}
use Rattle.shard_merge.specs.Reading.{IsListed, AreReadFrom}
use Rattle.run_merge.proofs.shards.read_shards.Given as goal

abbrev pub invariant-loop-i : goal.invariant-loop-i
invariant-loop-i g l = record {
  same : g.F.Shelf.told l.shelf ≡ g.F.Shelf.told l.initial.shelf;
  faults : g.F.Shelf.faults l.shelf ≡ g.F.Shelf.faults l.initial.shelf;
  listed : All (IsListed l.plan) l.shards.items;
  names : map (λ (s : Shard). s.name) l.shards.items ≡ take l.i l.names;
  read : WhereTold (g.F.Shelf.told l.initial.shelf)
      (λ files. (keeps : List (List KeptEpoch)) × AreReadFrom files l.id l.plan l.shards.items keeps);
}
