use Rattle.std.proofs.Common.{◌≡◌, ◌∙◌, ◌+◌, ◌-◌, ◌<◌, ◌≤◌, length, take, drop, sym, subst, arith, rules}
use Rattle.checkpoint_journal.proofs.RunLemmas.{looks_both, looks_three}
use Rattle.checkpoint_journal.proofs.ToldLemmas.{told_both, told_again}
use Rattle.checkpoint_journal.specs.Front.{IsBegun, OursTo, OursUpTo, Compares}
use Rattle.journal_image.specs.Difference.{IsOfFront}
use Rattle.checkpoint_journal.proofs.FrontLemmas.{ours_more, ours_up_to}
use Rattle.checkpoint_journal.proofs.front.first_difference.Goals as goal

pub returns-in_err-same-clause-looks : goal.returns-in_err-same-clause-looks
returns-in_err-same-clause-looks g c =
    looks_both g.D.Disk.seen g.D.Disk.moment g.D.Disk.may_leave _ _ _ c.loop-done.invariant.looks c.compare.ensures.looks

pub difference-requires-clause-begun : goal.difference-requires-clause-begun
difference-requires-clause-begun g c =
    told_again _ _ (λ image. IsBegun image c.args.len) (c.compare.ensures.looks.same ∙ c.loop-done.invariant.looks.same) c.requires.begun

pub difference-requires-clause-first : goal.difference-requires-clause-first
difference-requires-clause-first g c =
    let id = c.args.id.now in
    let done = c.loop-done.done in
    let count = done + c.min-count.result - done in
    let n = c.in_ok-same.same in
    let within : done + count ≤ length id = omega arith in
    let short : n < count = omega arith in
    told_again _ _ (λ image. OursUpTo id image (1 + (done + n))) c.compare.ensures.looks.same
    (told_both _ (λ image. OursTo id image done) (λ image. Compares image done (take count (drop done id)) n) (λ image. OursUpTo id image (1 + (done + n)))
    (λ image before part. ours_up_to id image done count n within short before part)
    (told_again _ _ (λ image. OursTo id image done) c.loop-done.invariant.looks.same c.loop-done.invariant.same)
    c.in_ok-same.ensures.compares)

pub returns-in_err-d-clause-looks : goal.returns-in_err-d-clause-looks
returns-in_err-d-clause-looks g c = looks_three g.D.Disk.seen g.D.Disk.moment g.D.Disk.may_leave _ _ _ _ c.loop-done.invariant.looks c.compare.ensures.looks c.difference.ensures.looks

pub returns-then-same-count-clause-looks : goal.returns-then-same-count-clause-looks
returns-then-same-count-clause-looks g c = looks_three g.D.Disk.seen g.D.Disk.moment g.D.Disk.may_leave _ _ _ _ c.loop-done.invariant.looks c.compare.ensures.looks c.difference.ensures.looks

pub returns-then-same-count-clause-first : goal.returns-then-same-count-clause-first
returns-then-same-count-clause-first g c =
    told_again _ _ (λ image. IsOfFront c.args.id.now image c.in_ok-d.d) (sym (c.compare.ensures.looks.same ∙ c.loop-done.invariant.looks.same)) c.in_ok-d.ensures.front

pub loop-done-preserved : goal.loop-done-preserved
loop-done-preserved g c =
    let id = c.args.id.now in
    let done = c.loop-done.done in
    let count = done + c.min-count.result - done in
    let n = c.in_ok-same.same in
    let within : done + count ≤ length id = omega arith in
    let some : n ≤ count = omega (arith, c.in_ok-same.ensures.within) in
    let all : n ≡ c.min-count.result = omega (arith, c.in_ok-same.ensures.within) in
    record {
      looks = looks_both g.D.Disk.seen g.D.Disk.moment g.D.Disk.may_leave _ _ _ c.loop-done.invariant.looks c.compare.ensures.looks;
      stays = g.met.D.Disk.stays_on.both _ _ _ c.loop-done.invariant.stays c.compare.ensures.stays;
      faults = search rules;
      within = omega arith;
      same = told_both _ (λ image. OursTo id image done) (λ image. Compares image done (take count (drop done id)) n) (λ image. OursTo id image (done + c.min-count.result))
          (λ image before part. subst (λ m. OursTo id image (done + m)) all (ours_more id image done count n within some before part))
          c.loop-done.invariant.same
          (told_again _ _ (λ image. Compares image done (take count (drop done id)) n) (sym c.loop-done.invariant.looks.same) c.in_ok-same.ensures.compares);
    }
