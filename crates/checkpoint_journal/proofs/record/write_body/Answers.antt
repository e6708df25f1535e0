use Rattle.std.specs.Prelude.{option_map}
use Rattle.std.proofs.Common.{◌≡◌, ◌∙◌, ◌+◌, ◌*◌, ◌≤◌, ◌++◌, take, length, ap, sym, arith, rules, ℕ, List}
use Rattle.std.proofs.lemmas.List.{length-take}
use Rattle.dev_traits.specs.Images.{Torn}
use Rattle.dev_traits.proofs.Moments.{runs_of, runs_both}
use Rattle.checkpoint_journal.specs.Cells.{body_text}
use Rattle.checkpoint_journal.specs.Runs.{KeepsFront, put_over}
use Rattle.checkpoint_journal.proofs.WriteLemmas.{front_torn, front_joined, front_same_one}
use Rattle.checkpoint_journal.proofs.TextLemmas.{length-body_text, body_text-part, written_more}
use Rattle.checkpoint_journal.proofs.record.write_body.Goals as goal

pub returns-in_err-write_at-clause-runs : goal.returns-in_err-write_at-clause-runs
returns-in_err-write_at-clause-runs g c = λ n low.
    let place = c.args.at + 24 * c.loop-done.done in
    let next = runs_of g.D.Disk.moment g.D.Disk.may_leave (KeepsFront n) (front_same_one n) (Torn place _) _ _ c.write_at.ensures.goes (λ v image now torn. front_torn n place _ (omega arith) v image torn) in
    runs_both g.D.Disk.moment g.D.Disk.may_leave (KeepsFront n) (front_same_one n) (front_joined n) _ _ _ (c.loop-done.invariant.runs n low) next

pub loop-done-preserved : goal.loop-done-preserved
loop-done-preserved g c =
    let at = c.args.at in
    let cells = c.args.sums.now.cells in
    let done = c.loop-done.done in
    let part = c.min-part.result in
    let some : done ≤ length cells = omega arith in
    let front : length (body_text (take done cells)) ≡ 24 * done = omega (arith, length-body_text (take done cells), length-take done cells) in
    let place : at + 24 * done ≡ at + length (body_text (take done cells)) = omega arith in
    let more = written_more at (at + 24 * done) (body_text (take done cells)) (take (24 * part) c.fill.new.buffer) _ _ _ c.requires.within place c.loop-done.invariant.written c.in_ok-write_at.ensures.written in
    record {
      within = omega arith;
      written = more ∙ ap (λ (l : List ℕ). option_map (put_over at l) (g.D.Disk.seen c.args.disk.now)) (ap (λ (l : List ℕ). body_text (take done cells) ++ l) c.fill.ensures ∙ sym (body_text-part cells done part));
      tells = c.write_at.ensures.tells ∙ c.loop-done.invariant.tells;
      runs = λ n low.
          let next = runs_of g.D.Disk.moment g.D.Disk.may_leave (KeepsFront n) (front_same_one n) (Torn (at + 24 * done) _) _ _ c.write_at.ensures.goes (λ v image now torn. front_torn n (at + 24 * done) _ (omega arith) v image torn) in
          runs_both g.D.Disk.moment g.D.Disk.may_leave (KeepsFront n) (front_same_one n) (front_joined n) _ _ _ (c.loop-done.invariant.runs n low) next;
      faults = search rules;
    }
