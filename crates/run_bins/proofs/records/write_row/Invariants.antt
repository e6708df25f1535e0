use Rattle.std.proofs.Common.{◌≡◌}
use Rattle.bin_records.specs.Texts.{bin_record_text}
use Rattle.dev_traits.specs.Told.{more}
use Rattle.run_bins.specs.Rows.{rows_text}
use Rattle.run_bins.proofs.records.write_row.Given as goal

abbrev pub invariant-loop-bin : goal.invariant-loop-bin
invariant-loop-bin g l = record {
  told : g.S.Sink.told l.out ≡ more (g.S.Sink.told l.initial.out) (rows_text (bin_record_text l.at) l.lags l.cells l.bin);
  kept : g.S.Sink.faults l.out ≡ g.S.Sink.faults l.initial.out;
}
