use Rattle.std.proofs.Common.{◌≡◌, ◌<◌, ◌≤◌, get_or, arith}
use Rattle.piece_plan.specs.Limited.{integrations}
use Rattle.checkpoint_journal.specs.Part.{IsOfPart}
use Rattle.checkpoint_journal.proofs.ToldLemmas.{told_both}
use Rattle.shard_merge.proofs.ShardListing.{range-IsNoShard}
use Rattle.shard_merge.proofs.listing.list_range.Goals as goal
use Rattle.shard_merge.proofs.listing.list_range.Goals.{else-from-to-via-then-from-to+else-to-integrations, else-from-to-via-else-from-to}

pub returns-in-Ok-clause-unlisted : goal.returns-in-Ok-clause-unlisted
returns-in-Ok-clause-unlisted g c =
    let unfit : c.args.from < c.args.to → c.args.to ≤ integrations c.args.plan.now → ⊥ =
    λ some within. elim c.else-from-to.branch [ else-from-to-via-then-from-to+else-to-integrations w ↦ omega (arith, w.integrations.ensures.many) | else-from-to-via-else-from-to w ↦ omega arith ] in
    told_both (g.D.Disk.seen c.args.disk.now) (λ image. IsOfPart image c.args.from c.args.to) (λ image. c.in-Ok.byte ≡ get_or image 9 0) _
    (λ image front is. range-IsNoShard c.args.id.now c.args.plan.now c.args.from c.args.to image c.in-Ok.byte unfit front is) c.requires.front c.in-Ok.ensures.byte
