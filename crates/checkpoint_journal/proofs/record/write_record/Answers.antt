use Rattle.std.proofs.Common.{◌+◌, refl, arith}
use Rattle.dev_traits.specs.Images.{Torn}
use Rattle.dev_traits.proofs.Moments.{runs_of, runs_both}
use Rattle.checkpoint_journal.specs.Cells.{body_text}
use Rattle.checkpoint_journal.specs.Runs.{KeepsFront}
use Rattle.checkpoint_journal.proofs.WriteLemmas.{front_torn, front_joined, front_same_one}
use Rattle.journal_image.specs.Image.{range_text}
use Rattle.checkpoint_journal.proofs.RecordLemmas.{written_head, written_behind, told_long}
use Rattle.checkpoint_journal.proofs.record.write_record.Goals as goal

pub returns-in_err-write_at-clause-runs : goal.returns-in_err-write_at-clause-runs
returns-in_err-write_at-clause-runs g c =
    let at = c.args.at in
    runs_of g.D.Disk.moment g.D.Disk.may_leave (KeepsFront at) (front_same_one at) (Torn at _) _ _ c.write_at.ensures.goes (λ v image now torn. front_torn at at _ (omega arith) v image torn)

pub write_body-requires-clause-within : goal.write_body-requires-clause-within
write_body-requires-clause-within g c =
    let at = c.args.at in
    told_long at (at + 28) (range_text c.args.e.now) _ _ c.requires.within refl (written_head at _ (range_text c.args.e.now) _ _ c.requires.within c.range_bytes.ensures c.in_ok-write_at.ensures.written)

pub returns-in_err-write_body-clause-runs : goal.returns-in_err-write_body-clause-runs
returns-in_err-write_body-clause-runs g c =
    let at = c.args.at in
    let first = runs_of g.D.Disk.moment g.D.Disk.may_leave (KeepsFront at) (front_same_one at) (Torn at _) _ _ c.write_at.ensures.goes (λ v image now torn. front_torn at at _ (omega arith) v image torn) in
    runs_both g.D.Disk.moment g.D.Disk.may_leave (KeepsFront at) (front_same_one at) (front_joined at) _ _ _ first (c.write_body.ensures.runs at (omega arith))

pub returns-clause-runs : goal.returns-clause-runs
returns-clause-runs g c =
    let at = c.args.at in
    let first = runs_of g.D.Disk.moment g.D.Disk.may_leave (KeepsFront at) (front_same_one at) (Torn at _) _ _ c.write_at.ensures.goes (λ v image now torn. front_torn at at _ (omega arith) v image torn) in
    runs_both g.D.Disk.moment g.D.Disk.may_leave (KeepsFront at) (front_same_one at) (front_joined at) _ _ _ first (c.write_body.ensures.runs at (omega arith))

pub returns-clause-written : goal.returns-clause-written
returns-clause-written g c =
    let at = c.args.at in
    let head = range_text c.args.e.now in
    written_behind at (at + 28) head (body_text c.args.sums.now.cells) _ _ _ c.requires.within refl
    (written_head at _ head _ _ c.requires.within c.range_bytes.ensures c.in_ok-write_at.ensures.written) c.in_ok-write_body.ensures.written
