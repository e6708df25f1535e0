use Rattle.std.specs.List.{All}
use Rattle.std.proofs.Common.{◌++◌, ◌∷◌, [], List, sym, subst, rules}
use Rattle.std.proofs.lemmas.List.Elements.{All-push}
use Rattle.dev_traits.specs.Told.{WhereTold}
use Rattle.dev_traits.proofs.ToldLemmas.{WhereTold-weaker}
use Rattle.checkpoint_journal.specs.declared.listed.KeptAt.{KeptAt}
use Rattle.checkpoint_journal.specs.Finding.{IsFound}
use Rattle.checkpoint_journal.specs.Listed.{Lists, IsPlaced, TellsListed}
use Rattle.checkpoint_journal.proofs.RunLemmas.{looks_both}
use Rattle.checkpoint_journal.proofs.ToldLemmas.{told_both, told_again}
use Rattle.checkpoint_journal.proofs.ListedLemmas.{IsListed, listed_more, lists_covered}
use Rattle.checkpoint_journal.proofs.listed.list_kept.Goals as goal

pub returns-in_default-clause-lists : goal.returns-in_default-clause-lists
returns-in_default-clause-lists g c =
    let id = c.args.id.now in
    let job = c.args.plan.now in
    let last = c.args.last.now in
    let here = c.loop-here.here in
    let listed = c.loop-here.kept.items in
    WhereTold-weaker (g.D.Disk.seen c.args.disk.now) (λ image. IsListed id job image last here listed) (λ image. IsFound id job image last → Lists id job image listed)
    (λ image before found. lists_covered id job image last here listed c.epochs-epochs.ensures.job c.in_default.is before found)
    c.loop-here.invariant.list

pub returns-in_default-pass_record-clause-looks : goal.returns-in_default-pass_record-clause-looks
returns-in_default-pass_record-clause-looks g c =
    looks_both g.D.Disk.seen g.D.Disk.moment g.D.Disk.may_leave _ _ _ c.loop-here.invariant.looks c.pass_record.ensures.looks

pub returns-in_default-add-clause-looks : goal.returns-in_default-add-clause-looks
returns-in_default-add-clause-looks g c =
    looks_both g.D.Disk.seen g.D.Disk.moment g.D.Disk.may_leave _ _ _ c.loop-here.invariant.looks c.pass_record.ensures.looks

pub loop-here-preserved : goal.loop-here-preserved
loop-here-preserved g c =
    let id = c.args.id.now in
    let job = c.args.plan.now in
    let last = c.args.last.now in
    let seen = g.D.Disk.seen c.args.disk.now in
    let here = c.loop-here.here in
    let listed = c.loop-here.kept.items in
    let a = c.in-Ok.passed.0 in
    let behind = c.in-Ok.passed.1 in
    record {
      looks = looks_both g.D.Disk.seen g.D.Disk.moment g.D.Disk.may_leave _ _ _ c.loop-here.invariant.looks c.pass_record.ensures.looks;
      stays = g.met.D.Disk.stays_on.both _ _ _ c.loop-here.invariant.stays c.pass_record.ensures.stays;
      faults = search rules;
      list = subst (λ (l : List KeptAt). WhereTold seen (λ image. IsListed id job image last behind l)) (sym {A = List KeptAt} c.in-Ok-add.ensures)
          (told_both seen (λ image. IsListed id job image last here listed) (λ image. TellsListed job image here last.gate a behind) (λ image. IsListed id job image last behind (listed ++ a ∷ []))
          (λ image before tells. listed_more id job image last here behind a listed c.loop-here-test.true c.in-Ok.ensures.past.kept tells before)
          c.loop-here.invariant.list
          (told_again seen _ (λ image. TellsListed job image here last.gate a behind) (sym c.loop-here.invariant.looks.same) c.in-Ok.ensures.told));
      placed = subst (All (IsPlaced job)) (sym {A = List KeptAt} c.in-Ok-add.ensures) (All-push (IsPlaced job) listed a c.loop-here.invariant.placed c.in-Ok.ensures.placed);
      place = c.in-Ok.ensures.past.place;
      within = c.in-Ok.ensures.past.within;
    }
