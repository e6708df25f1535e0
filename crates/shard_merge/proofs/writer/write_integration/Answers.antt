use Rattle.shard_merge.proofs.WriterCalls.{merged-answer, merged-integration, merged-failed}
use Rattle.shard_merge.proofs.writer.write_integration.Goals as goal

pub returns-in-Err : goal.returns-in-Err
returns-in-Err g c =
    merged-failed _ _ _ _ _ _ c.args.shelf.now c.sum_first.new.shelf _ _ c.in-Err.fault c.in-Err.ensures.same c.in-Err.ensures.counts.risen

pub returns-in-Ok : goal.returns-in-Ok
returns-in-Ok g c =
    merged-answer _ _ _ _ _ _ _ _ _ _ _ _ c.sunk.ensures
    (merged-integration _ _ _ _ _ c.args.shelf.now c.sum_first.new.shelf c.args.number c.args.m _ _ _ _ _ c.write_integration_at.result
    c.in-Ok.ensures.same c.in-Ok.ensures.counts.kept c.in-Ok.ensures.sums c.write_integration_at.ensures)
