use Rattle.std.proofs.Common.{◌≡◌}
use Rattle.dev_traits.specs.Told.{more}
use Rattle.run_bins.specs.Rows.{rows_text, baselines_text}
use Rattle.run_bins.proofs.records.write_products.Given as goal

abbrev pub invariant-loop-product : goal.invariant-loop-product
invariant-loop-product g l = record {
  told : g.S.Sink.told l.out ≡ more (g.S.Sink.told l.initial.out) (rows_text (baselines_text l.number l.m l.sizes.baselines l.sizes.bins l.sizes.lags) l.width l.cells l.product);
  kept : g.S.Sink.faults l.out ≡ g.S.Sink.faults l.initial.out;
}
