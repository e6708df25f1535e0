use Rattle.std.specs.Prelude.{IfOk, IfErr}
use Rattle.std.proofs.Common.{◌≡◌, true, inl, ℕ, List, Option, subst, sym}
use Rattle.dev_traits.specs.Told.{WhereTold}
use Rattle.dev_traits.proofs.ToldLemmas.{WhereTold-weaker}
use Rattle.journal_image.specs.Image.{is_blank}
use Rattle.checkpoint_journal.specs.declared.part.PartFound.{PartFound}
use Rattle.checkpoint_journal.specs.declared.listed.KeptAt.{KeptAt}
use Rattle.checkpoint_journal.specs.Part.{FindsPart, IsOfPart, IsNoPart}
use Rattle.checkpoint_journal.proofs.ToldLemmas.{told_again}
use Rattle.shard_merge.specs.Shards.{IsNoShard}
use Rattle.shard_merge.specs.Listing.{ListsShard, IsUnlisted}
use Rattle.shard_merge.specs.Reading.{CountsShard}
use Rattle.shard_merge.proofs.ShardListing.{blank-ListsShard}
use Rattle.shard_merge.proofs.listing.list_shard.Goals as goal

pub list_range-requires-clause-front : goal.list_range-requires-clause-front
list_range-requires-clause-front g c =
    let finds = subst (λ (f : PartFound). WhereTold (g.D.Disk.seen c.args.disk.now) (λ image. FindsPart image f)) c.in-Ok-Part.field-0-is c.in-Ok-Part.ensures.finds in
    told_again _ _ (λ image. IsOfPart image c.in-Ok-Part.from c.in-Ok-Part.to) c.find_part.ensures.looks.same finds

pub returns-in-Ok-Blank-clause-lists : goal.returns-in-Ok-Blank-clause-lists
returns-in-Ok-Blank-clause-lists g c =
    let finds = subst (λ (f : PartFound). WhereTold (g.D.Disk.seen c.args.disk.now) (λ image. FindsPart image f)) c.in-Ok-Blank.field-0-is c.in-Ok-Blank.ensures.finds in
    WhereTold-weaker _ (λ image. is_blank image ≡ true) (λ image. ListsShard c.args.id.now c.args.plan.now image c.new.result.items)
    (λ image blank. subst (λ (l : List KeptAt). ListsShard c.args.id.now c.args.plan.now image l) (sym c.new.ensures.items) (blank-ListsShard c.args.id.now c.args.plan.now image blank)) finds

pub returns-in-Ok-Part-clause-lists : goal.returns-in-Ok-Part-clause-lists
returns-in-Ok-Part-clause-lists g c =
    subst (λ (seen : Option (List ℕ)). IfOk c.list_range.result (λ kept. WhereTold seen (λ image. ListsShard c.args.id.now c.args.plan.now image kept.items))) c.find_part.ensures.looks.same c.list_range.ensures.lists

pub returns-in-Ok-Part-clause-unlisted : goal.returns-in-Ok-Part-clause-unlisted
returns-in-Ok-Part-clause-unlisted g c =
    subst (λ (seen : Option (List ℕ)). IfErr c.list_range.result (IsUnlisted c.args.id.now c.args.plan.now seen)) c.find_part.ensures.looks.same c.list_range.ensures.unlisted

pub returns-in-Ok-Part-clause-stays : goal.returns-in-Ok-Part-clause-stays
returns-in-Ok-Part-clause-stays g c = g.met.D.Disk.stays_on.both _ _ _ c.find_part.ensures.stays c.list_range.ensures.stays

pub returns-in-Ok-Part-clause-counts : goal.returns-in-Ok-Part-clause-counts
returns-in-Ok-Part-clause-counts g c =
    subst (λ (before : ℕ). CountsShard before (g.D.Disk.faults c.list_range.new.disk) c.list_range.result) c.in-Ok-Part.ensures.counts.kept c.list_range.ensures.counts

pub returns-in-Ok-Other-clause-unlisted : goal.returns-in-Ok-Other-clause-unlisted
returns-in-Ok-Other-clause-unlisted g c =
    let finds = subst (λ (f : PartFound). WhereTold (g.D.Disk.seen c.args.disk.now) (λ image. FindsPart image f)) c.in-Ok-Other.field-0-is c.in-Ok-Other.ensures.finds in
    WhereTold-weaker _ (λ image. IsNoPart image c.in-Ok-Other.d) (λ image. IsNoShard c.args.id.now c.args.plan.now image c.in-Ok-Other.d) (λ image none. inl none) finds
