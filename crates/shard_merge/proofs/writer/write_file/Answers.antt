use Rattle.std.proofs.Common.{◌≡◌, Err, rules}
use Rattle.shard_merge.proofs.WriterCalls.{merged-head, merged-records, merged-file}
use Rattle.shard_merge.proofs.writer.write_file.Goals as goal

pub returns-in_err-sunk : goal.returns-in_err-sunk
returns-in_err-sunk g c =
    let failed : c.from_residual.result ≡ Err c.in_err-sunk.field-0.0 = search rules in
    merged-head _ _ _ _ _ c.write_head.result _ _ _ _ _ c.requires.head c.write_head.ensures c.in_err-sunk.ensures failed

pub returns-in_err-write_scans : goal.returns-in_err-write_scans
returns-in_err-write_scans g c =
    let failed : c.from_residual-in_err-write_scans.result ≡ Err c.in_err-write_scans.field-0.0 = search rules in
    merged-records _ _ _ _ _ c.write_head.result _ _ _ _ _ _ _ _ c.requires.head c.write_head.ensures c.in_ok-sunk.ensures c.in_err-write_scans.ensures failed

pub returns : goal.returns
returns g c =
    merged-file _ _ _ _ _ c.write_head.result c.write_end.result _ _ _ _ _ _ _ _ _ _ _ c.requires.head c.write_head.ensures c.in_ok-sunk.ensures
    c.in_ok-write_scans.ensures c.record_count.ensures c.write_end.ensures c.sunk-2.ensures
