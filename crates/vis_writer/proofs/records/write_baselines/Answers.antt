use Rattle.std.proofs.Common.{refl}
use Rattle.vis_writer.proofs.Rows.{rows-none, baseline_place, baselines-next, baselines-exit, baselines-all}
use Rattle.vis_writer.proofs.records.write_baselines.Goals as goal

pub loop-baseline-init : goal.loop-baseline-init
loop-baseline-init g c = record {
  told = rows-none c.args.lags (baseline_place c.args.number c.args.m c.args.product) c.args.lags c.args.cells.now _;
  kept = refl;
}

pub returns-in_err-write_record : goal.returns-in_err-write_record
returns-in_err-write_record g c =
    baselines-exit c.args.number c.args.m c.args.product c.args.lags c.args.scan.now c.args.cells.now c.items-baseline-end.result.now
    c.loop-baseline.baseline c.requires.room c.items-baseline-end.ensures c.loop-baseline-test.true c.from_residual.ensures.0
    (baselines-next c.args.number c.args.m c.args.product c.args.lags c.args.scan.now c.args.cells.now c.items-baseline-end.result.now
    c.loop-baseline.baseline c.requires.room c.items-baseline-end.ensures c.loop-baseline-test.true
    c.loop-baseline.invariant.told c.loop-baseline.invariant.kept c.in_err-write_record.ensures)

pub loop-baseline-preserved : goal.loop-baseline-preserved
loop-baseline-preserved g c =
    let all =
    baselines-next c.args.number c.args.m c.args.product c.args.lags c.args.scan.now c.args.cells.now c.items-baseline-end.result.now
    c.loop-baseline.baseline c.requires.room c.items-baseline-end.ensures c.loop-baseline-test.true
    c.loop-baseline.invariant.told c.loop-baseline.invariant.kept c.in_ok-write_record.ensures in
    record { told = all.ok; kept = all.counts.kept }

pub returns : goal.returns
returns g c =
    baselines-all c.args.number c.args.m c.args.product c.args.lags c.args.scan.now c.args.cells.now c.items-baseline-end.result.now
    tt c.loop-baseline.baseline c.requires.room c.items-baseline-end.ensures c.loop-baseline.auto.baseline-end c.loop-baseline-test.false
    c.loop-baseline.invariant.told c.loop-baseline.invariant.kept
