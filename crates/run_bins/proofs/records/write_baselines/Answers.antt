use Rattle.std.proofs.Common.{refl, ◌*◌}
use Rattle.run_bins.proofs.RowLemmas.{baseline-row, rows-none, rows-next, rows-exit, rows-all}
use Rattle.run_bins.proofs.records.write_baselines.Goals as goal

pub loop-baseline-init : goal.loop-baseline-init
loop-baseline-init g c = record {
  told = rows-none (baseline-row c.args.number c.args.m c.args.product c.args.sizes.now.bins c.args.sizes.now.lags) (c.args.sizes.now.bins * c.args.sizes.now.lags) c.args.sizes.now.baselines c.args.cells.now _;
  kept = refl;
}

pub returns-in_err-write_row : goal.returns-in_err-write_row
returns-in_err-write_row g c =
    let s = c.args.sizes.now in
    rows-exit (baseline-row c.args.number c.args.m c.args.product s.bins s.lags) (s.bins * s.lags) s.baselines c.args.cells.now c.loop-baseline.baseline
    c.loop-baseline-test.true c.from_residual.ensures.0
    (rows-next (baseline-row c.args.number c.args.m c.args.product s.bins s.lags) (s.bins * s.lags) s.baselines c.args.cells.now c.loop-baseline.baseline
    c.loop-baseline.invariant.told c.loop-baseline.invariant.kept c.in_err-write_row.ensures)

pub loop-baseline-preserved : goal.loop-baseline-preserved
loop-baseline-preserved g c =
    let s = c.args.sizes.now in
    let all =
    rows-next (baseline-row c.args.number c.args.m c.args.product s.bins s.lags) (s.bins * s.lags) s.baselines c.args.cells.now c.loop-baseline.baseline
    c.loop-baseline.invariant.told c.loop-baseline.invariant.kept c.in_ok-write_row.ensures in
    record { told = all.ok; kept = all.counts.kept }

pub returns : goal.returns
returns g c =
    let s = c.args.sizes.now in
    rows-all (baseline-row c.args.number c.args.m c.args.product s.bins s.lags) (s.bins * s.lags) s.baselines c.args.cells.now tt c.loop-baseline.baseline
    c.loop-baseline.auto.baseline-end c.loop-baseline-test.false c.loop-baseline.invariant.told c.loop-baseline.invariant.kept
