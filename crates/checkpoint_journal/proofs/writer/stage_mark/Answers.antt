use Rattle.std.proofs.Common.{arith}
use Rattle.dev_traits.specs.Images.{Torn}
use Rattle.dev_traits.proofs.Moments.{runs_of}
use Rattle.checkpoint_journal.specs.Runs.{KeepsFront}
use Rattle.checkpoint_journal.proofs.WriteLemmas.{front_torn, front_same_one}
use Rattle.checkpoint_journal.proofs.RecordLemmas.{written_head}
use Rattle.checkpoint_journal.proofs.writer.stage_mark.Goals as goal

pub returns-in_err-write_synced-clause-runs : goal.returns-in_err-write_synced-clause-runs
returns-in_err-write_synced-clause-runs g c =
    let at = c.args.at in
    runs_of g.D.Disk.moment g.D.Disk.may_leave (KeepsFront at) (front_same_one at) (Torn at _) _ _ c.write_synced.ensures.goes (λ v image now torn. front_torn at at _ (omega arith) v image torn)

pub returns-clause-runs : goal.returns-clause-runs
returns-clause-runs g c =
    let at = c.args.at in
    runs_of g.D.Disk.moment g.D.Disk.may_leave (KeepsFront at) (front_same_one at) (Torn at _) _ _ c.write_synced.ensures.goes (λ v image now torn. front_torn at at _ (omega arith) v image torn)

pub returns-clause-written : goal.returns-clause-written
returns-clause-written g c = written_head c.args.at _ _ _ _ c.requires.within c.mark_bytes.ensures c.in_ok-write_synced.ensures.written
