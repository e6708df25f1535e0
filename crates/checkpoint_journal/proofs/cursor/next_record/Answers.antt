use Rattle.std.proofs.Common.{◌≡◌, ◌+◌, min, true, refl, sym, subst, arith, rules}
use Rattle.dev_traits.specs.Told.{WhereTold}
use Rattle.dev_traits.proofs.ToldLemmas.{WhereTold-weaker}
use Rattle.checkpoint_journal.proofs.RunLemmas.{looks_both}
use Rattle.checkpoint_journal.proofs.ToldLemmas.{told_both, told_again}
use Rattle.journal_image.specs.declared.finding.Behind.{Behind}
use Rattle.journal_image.specs.declared.finding.Behind.TheVariants.{Mark}
use Rattle.checkpoint_journal.specs.Next.{TellsThing, TellsRecord}
use Rattle.checkpoint_journal.proofs.NextLemmas.{tells_here, turned_at, tells_behind}
use Rattle.checkpoint_journal.proofs.cursor.next_record.Goals as goal

pub returns-in_err-behind-in-Mark-clause-looks : goal.returns-in_err-behind-in-Mark-clause-looks
returns-in_err-behind-in-Mark-clause-looks g c = looks_both g.D.Disk.seen g.D.Disk.moment g.D.Disk.may_leave _ _ _ c.look.ensures.looks c.look-in-Mark.ensures.looks

pub returns-in_ok-behind-in-Mark-clause-told : goal.returns-in_ok-behind-in-Mark-clause-told
returns-in_ok-behind-in-Mark-clause-told g c =
    let job = c.args.plan.now in
    let here = c.args.here.now in
    let last = c.args.last in
    let seen = g.D.Disk.seen c.args.disk.now in
    let turned = c.up_to-turned.result in
    let behind = c.in_ok-behind-in-Mark.behind in
    let e = c.epoch_of.result in
    let is : turned ≡ record here { gate = min (here.gate + 25) last; ranged = true } =
    turned_at here c.past_mark.result turned last c.past_mark.ensures c.up_to-turned.ensures in
    told_both seen (λ image. TellsThing job image here Mark) (λ image. TellsThing job image turned behind) (λ image. TellsRecord job image here last turned e)
    (λ image mark tells. tells_behind job image here turned last behind c.args.place.now e c.requires.next.due is mark tells c.epoch_of.ensures.same)
    (subst (λ (b : Behind). WhereTold seen (λ image. TellsThing job image here b)) c.in-Mark.is c.in_ok-found.ensures.told)
    (told_again seen (g.D.Disk.seen c.look.new.disk) (λ image. TellsThing job image turned behind) (sym c.look.ensures.looks.same) c.in_ok-behind-in-Mark.ensures.told)

pub returns-in_ok-behind-in-Mark-clause-looks : goal.returns-in_ok-behind-in-Mark-clause-looks
returns-in_ok-behind-in-Mark-clause-looks g c = looks_both g.D.Disk.seen g.D.Disk.moment g.D.Disk.may_leave _ _ _ c.look.ensures.looks c.look-in-Mark.ensures.looks

pub returns-in_default : goal.returns-in_default
returns-in_default g c =
    let job = c.args.plan.now in
    let here = c.args.here.now in
    let found = c.in_ok-found.found in
    let e = c.epoch_of-in_default.result in
    record {
      epoch = c.epoch_of-in_default.ensures.fits;
      gate = record { kept = refl; next = refl; after = omega arith; within = c.requires.next.before };
      told = WhereTold-weaker (g.D.Disk.seen c.args.disk.now) (λ image. TellsThing job image here found) (λ image. TellsRecord job image here c.args.last here e)
          (λ image tells. tells_here job image here c.args.last found c.args.place.now e c.requires.next.due c.in_default.not-Mark tells c.epoch_of-in_default.ensures.same)
          c.in_ok-found.ensures.told;
      looks = c.look.ensures.looks;
      stays = c.look.ensures.stays;
      counts = search rules;
    }
