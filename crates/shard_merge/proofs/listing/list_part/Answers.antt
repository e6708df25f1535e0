use Rattle.std.proofs.Common.{◌∙◌, ◌<◌, ◌^◌, List, ℕ, length, subst, sym}
use Rattle.journal_image.specs.Image.{IsIdentity}
use Rattle.shard_merge.proofs.ShardListing.{length-shard_of-lt, answer-ListsShard, answer-IsUnlisted, answer-placed}
use Rattle.shard_merge.proofs.listing.list_part.Goals as goal

pub returns-in_err-own-clause-stays : goal.returns-in_err-own-clause-stays
returns-in_err-own-clause-stays g c = g.met.D.Disk.stays_on.none _

pub returns-in_err-identity-clause-stays : goal.returns-in_err-identity-clause-stays
returns-in_err-identity-clause-stays g c = g.met.D.Disk.stays_on.none _

pub returns-in_err-buffer-clause-stays : goal.returns-in_err-buffer-clause-stays
returns-in_err-buffer-clause-stays g c = g.met.D.Disk.stays_on.none _

pub list_journal-requires-clause-identity : goal.list_journal-requires-clause-identity
list_journal-requires-clause-identity g c = subst IsIdentity (sym c.bytes.ensures.is) c.bytes.ensures.named

pub list_journal-requires-clause-short : goal.list_journal-requires-clause-short
list_journal-requires-clause-short g c =
    subst (λ (l : List ℕ). length l < 2 ^ 62) (sym (c.bytes.ensures.is ∙ c.in_ok-identity.ensures)) (length-shard_of-lt c.args.id.now c.args.from c.args.to c.requires.short)

pub returns-clause-lists : goal.returns-clause-lists
returns-clause-lists g c =
    answer-ListsShard c.args.id.now c.args.plan.now c.args.from c.args.to c.requires.some c.requires.within (g.D.Disk.seen c.args.disk.now) c.requires.front
    c.bytes.result.now c.in_ok-own.own (c.bytes.ensures.is ∙ c.in_ok-identity.ensures) c.in_ok-own.ensures
    c.list_journal.result (λ kept. kept.items) c.list_journal.ensures.lists

pub returns-clause-unlisted : goal.returns-clause-unlisted
returns-clause-unlisted g c =
    answer-IsUnlisted c.args.id.now c.args.plan.now c.args.from c.args.to c.requires.some c.requires.within (g.D.Disk.seen c.args.disk.now) c.requires.front
    c.bytes.result.now c.in_ok-own.own (c.bytes.ensures.is ∙ c.in_ok-identity.ensures) c.in_ok-own.ensures
    c.list_journal.result c.list_journal.ensures.unlike

pub returns-clause-placed : goal.returns-clause-placed
returns-clause-placed g c =
    answer-placed c.args.id.now c.args.plan.now c.args.from c.args.to c.requires.some c.requires.within (g.D.Disk.seen c.args.disk.now) c.requires.front
    c.bytes.result.now c.in_ok-own.own (c.bytes.ensures.is ∙ c.in_ok-identity.ensures) c.in_ok-own.ensures
    (λ e inside. ((c.epochs_of_limited.ensures c.args.plan.now c.args.from c.args.to e c.lags-lags.ensures.job).0 inside).0)
    c.list_journal.result (λ kept. kept.items) c.list_journal.ensures.placed
