use Rattle.std.proofs.Common.{◌≡◌, ◌∙◌, ◌+◌, take, length, sym, ap, rules, arith}
use Rattle.std.proofs.lemmas.List.{take_all}
use Rattle.dev_traits.proofs.ToldLemmas.{WhereTold-weaker}
use Rattle.checkpoint_journal.specs.Cells.{cells_at}
use Rattle.checkpoint_journal.proofs.RunLemmas.{looks_both}
use Rattle.checkpoint_journal.proofs.ToldLemmas.{told_both, told_again}
use Rattle.checkpoint_journal.proofs.body.read_body.Goals as goal

pub returns-in_err-read_part-clause-looks : goal.returns-in_err-read_part-clause-looks
returns-in_err-read_part-clause-looks g c =
    looks_both g.D.Disk.seen g.D.Disk.moment g.D.Disk.may_leave _ _ _ c.loop-done.invariant.looks c.read_part.ensures.looks

pub loop-done-preserved : goal.loop-done-preserved
loop-done-preserved g c =
    let at = c.args.at in
    let done = c.loop-done.done in
    let part = c.min-part.result in
    record {
      looks = looks_both g.D.Disk.seen g.D.Disk.moment g.D.Disk.may_leave _ _ _ c.loop-done.invariant.looks c.read_part.ensures.looks;
      stays = g.met.D.Disk.stays_on.both _ _ _ c.loop-done.invariant.stays c.read_part.ensures.stays;
      faults = search rules;
      within = omega arith;
      front = told_both _ (λ image. take done c.loop-done.out ≡ cells_at image at done)
          (λ image. take done c.loop-done.out ≡ cells_at image at done → take (done + part) c.read_part.new.out ≡ cells_at image at (done + part))
          (λ image. take (done + part) c.read_part.new.out ≡ cells_at image at (done + part))
          (λ image before more. more before)
          c.loop-done.invariant.front
          (told_again _ _ (λ image. take done c.loop-done.out ≡ cells_at image at done → take (done + part) c.read_part.new.out ≡ cells_at image at (done + part)) (sym c.loop-done.invariant.looks.same) c.in_ok-read_part.ensures.cells);
    }

pub returns-clause-cells : goal.returns-clause-cells
returns-clause-cells g c =
    let at = c.args.at in
    let out = c.loop-done.out in
    let done = c.loop-done.done in
    WhereTold-weaker (g.D.Disk.seen c.args.disk.now) (λ image. take done out ≡ cells_at image at done) (λ image. out ≡ cells_at image at (length c.args.out.now))
    (λ image front. let end : done ≡ length c.args.out.now = omega arith in sym (take_all done out (omega arith)) ∙ front ∙ ap (cells_at image at) end)
    c.loop-done.invariant.front
