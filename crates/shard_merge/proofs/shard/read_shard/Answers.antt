use Rattle.std.proofs.Common.{ℕ, List, refl, subst}
use Rattle.shelf_file.specs.Seen.{seen_under}
use Rattle.shard_merge.specs.Listing.{IsUnlisted}
use Rattle.shard_merge.proofs.ShardFile.{nothing_said, copied-IsReadFrom, seen_under-IsRefusedShard}
use Rattle.shard_merge.proofs.shard.read_shard.Goals as goal

pub returns-in-Ok-list_file-clause-read : goal.returns-in-Ok-list_file-clause-read
returns-in-Ok-list_file-clause-read g c =
    copied-IsReadFrom (g.F.Shelf.told c.args.shelf.now) c.args.id.now c.args.plan.now _ c.args.name.now c.text_of.result.now c.args.size c.in-Ok.ensures c.text_of.ensures refl c.requires.bound c.requires.size c.in-Ok-list_file.ensures.lists

pub returns-in-Err-clause-refused : goal.returns-in-Err-clause-refused
returns-in-Err-clause-refused g c =
    seen_under-IsRefusedShard (g.F.Shelf.told c.args.shelf.now) c.args.id.now c.args.plan.now c.args.name.now c.args.size c.in-Err.fault c.requires.bound c.requires.size
    (subst (λ (l : List ℕ). IsUnlisted c.args.id.now c.args.plan.now (seen_under (g.F.Shelf.told c.args.shelf.now) l c.args.size) c.in-Err.fault) c.text_of.ensures c.in-Err.ensures.unlisted)

pub returns-in_default-clause-refused : goal.returns-in_default-clause-refused
returns-in_default-clause-refused g c = nothing_said (g.F.Shelf.told c.args.shelf.now)
