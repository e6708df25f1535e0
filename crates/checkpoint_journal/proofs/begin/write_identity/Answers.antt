use Rattle.std.proofs.Common.{◌+◌, length, arith}
use Rattle.dev_traits.specs.Images.{Torn}
use Rattle.dev_traits.proofs.Moments.{runs_of, runs_both}
use Rattle.checkpoint_journal.specs.Runs.{KeepsFront}
use Rattle.checkpoint_journal.proofs.WriteLemmas.{front_torn, front_joined, front_same_one}
use Rattle.checkpoint_journal.proofs.begin.write_identity.Goals as goal

pub returns-in_err-write_at-clause-runs : goal.returns-in_err-write_at-clause-runs
returns-in_err-write_at-clause-runs g c =
    let id = c.args.id.now in
    runs_of g.D.Disk.moment g.D.Disk.may_leave (KeepsFront 1) (front_same_one 1) (Torn 1 (1 + length id)) _ _ c.write_at.ensures.goes (λ v image now torn. front_torn 1 1 (1 + length id) (omega arith) v image torn)

pub returns-clause-runs : goal.returns-clause-runs
returns-clause-runs g c =
    let id = c.args.id.now in
    let first = runs_of g.D.Disk.moment g.D.Disk.may_leave (KeepsFront 1) (front_same_one 1) (Torn 1 (1 + length id)) _ _ c.write_at.ensures.goes (λ v image now torn. front_torn 1 1 (1 + length id) (omega arith) v image torn) in
    let second = runs_of g.D.Disk.moment g.D.Disk.may_leave (KeepsFront 1) (front_same_one 1) (Torn (1 + length id) (1 + length id + 1)) _ _ c.write_synced.ensures.goes (λ v image now torn. front_torn 1 (1 + length id) (1 + length id + 1) (omega arith) v image torn) in
    runs_both g.D.Disk.moment g.D.Disk.may_leave (KeepsFront 1) (front_same_one 1) (front_joined 1) _ _ _ first second
