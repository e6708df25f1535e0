use Rattle.std.proofs.Common.{◌≡◌}
use Rattle.corr_model.specs.Records.{baseline_places}
use Rattle.vis_records.specs.Heads.{scan_of}
use Rattle.dev_traits.specs.Told.{more}
use Rattle.vis_writer.proofs.Rows.{rows_text}
use Rattle.vis_writer.proofs.records.write_products.Given as goal

abbrev pub invariant-loop-product : goal.invariant-loop-product
invariant-loop-product g l = record {
  told : g.S.Sink.told l.out ≡ more (g.S.Sink.told l.initial.out) (rows_text l.head.lags (baseline_places l.number (scan_of l.scan) l.m) l.width l.cells l.product);
  kept : g.S.Sink.faults l.out ≡ g.S.Sink.faults l.initial.out;
}
