use Rattle.std.proofs.Common.{◌≡◌}
use Rattle.dev_traits.specs.Told.{more}
use Rattle.vis_writer.proofs.Rows.{rows_text, baseline_place}
use Rattle.vis_writer.proofs.records.write_baselines.Given as goal

abbrev pub invariant-loop-baseline : goal.invariant-loop-baseline
invariant-loop-baseline g l = record {
  told : g.S.Sink.told l.out ≡ more (g.S.Sink.told l.initial.out) (rows_text l.lags (baseline_place l.number l.m l.product) l.lags l.cells l.baseline);
  kept : g.S.Sink.faults l.out ≡ g.S.Sink.faults l.initial.out;
}
