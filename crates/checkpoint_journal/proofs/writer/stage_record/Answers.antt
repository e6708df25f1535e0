use Rattle.std.proofs.Common.{◌≡◌, ◌+◌, ◌++◌, length, arith, [], ◌∷◌, length-append}
use Rattle.dev_traits.specs.Images.{Torn}
use Rattle.dev_traits.proofs.Moments.{runs_of, runs_both}
use Rattle.checkpoint_journal.specs.Cells.{body_text}
use Rattle.checkpoint_journal.specs.Runs.{KeepsFront}
use Rattle.checkpoint_journal.proofs.WriteLemmas.{front_torn, front_joined, front_same_one}
use Rattle.checkpoint_journal.proofs.TextLemmas.{length-body_text, written_more}
use Rattle.journal_image.specs.Image.{range_text}
use Rattle.checkpoint_journal.proofs.writer.stage_record.Goals as goal

pub returns-in_err-write_synced-clause-runs : goal.returns-in_err-write_synced-clause-runs
returns-in_err-write_synced-clause-runs g c =
    let at = c.args.at in
    let next = runs_of g.D.Disk.moment g.D.Disk.may_leave (KeepsFront at) (front_same_one at) (Torn _ _) _ _ c.write_synced.ensures.goes (λ v image now torn. front_torn at _ _ (omega arith) v image torn) in
    runs_both g.D.Disk.moment g.D.Disk.may_leave (KeepsFront at) (front_same_one at) (front_joined at) _ _ _ c.write_record.ensures.runs next

pub returns-clause-runs : goal.returns-clause-runs
returns-clause-runs g c =
    let at = c.args.at in
    let next = runs_of g.D.Disk.moment g.D.Disk.may_leave (KeepsFront at) (front_same_one at) (Torn _ _) _ _ c.write_synced.ensures.goes (λ v image now torn. front_torn at _ _ (omega arith) v image torn) in
    runs_both g.D.Disk.moment g.D.Disk.may_leave (KeepsFront at) (front_same_one at) (front_joined at) _ _ _ c.write_record.ensures.runs next

pub returns-clause-written : goal.returns-clause-written
returns-clause-written g c =
    let at = c.args.at in
    let body = body_text c.args.sums.now.cells in
    let text = range_text c.args.e.now ++ body in
    let place : at + c.record_len.result ≡ at + length text = omega (arith, length-append (range_text c.args.e.now) body, length-body_text c.args.sums.now.cells, c.requires.fits.many, c.record_len.ensures.is, c.cells.ensures) in
    written_more at (at + c.record_len.result) text (0 ∷ []) _ _ _ c.requires.within place c.in_ok-write_record.ensures.written c.in_ok-write_synced.ensures.written
