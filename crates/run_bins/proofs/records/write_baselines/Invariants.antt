use Rattle.std.proofs.Common.{◌≡◌}
use Rattle.dev_traits.specs.Told.{more}
use Rattle.run_bins.specs.Rows.{rows_text}
use Rattle.run_bins.proofs.RowLemmas.{baseline-row}
use Rattle.run_bins.proofs.records.write_baselines.Given as goal

abbrev pub invariant-loop-baseline : goal.invariant-loop-baseline
invariant-loop-baseline g l = record {
  told : g.S.Sink.told l.out ≡ more (g.S.Sink.told l.initial.out) (rows_text (baseline-row l.number l.m l.product l.sizes.bins l.sizes.lags) l.width l.cells l.baseline);
  kept : g.S.Sink.faults l.out ≡ g.S.Sink.faults l.initial.out;
}
