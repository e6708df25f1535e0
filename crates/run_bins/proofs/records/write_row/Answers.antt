use Rattle.std.proofs.Common.{refl}
use Rattle.bin_records.specs.Texts.{bin_record_text}
use Rattle.run_bins.proofs.RowLemmas.{rows-none, rows-next, rows-exit, rows-all}
use Rattle.run_bins.proofs.records.write_row.Goals as goal

pub loop-bin-init : goal.loop-bin-init
loop-bin-init g c = record {
  told = rows-none (bin_record_text c.args.at.now) c.args.lags c.args.bins c.args.cells.now _;
  kept = refl;
}

pub returns-in_err-write_bin_record : goal.returns-in_err-write_bin_record
returns-in_err-write_bin_record g c =
    rows-exit (bin_record_text c.args.at.now) c.args.lags c.args.bins c.args.cells.now c.loop-bin.bin c.loop-bin-test.true c.from_residual.ensures.0
    (rows-next (bin_record_text c.args.at.now) c.args.lags c.args.bins c.args.cells.now c.loop-bin.bin
    c.loop-bin.invariant.told c.loop-bin.invariant.kept c.in_err-write_bin_record.ensures)

pub loop-bin-preserved : goal.loop-bin-preserved
loop-bin-preserved g c =
    let all =
    rows-next (bin_record_text c.args.at.now) c.args.lags c.args.bins c.args.cells.now c.loop-bin.bin
    c.loop-bin.invariant.told c.loop-bin.invariant.kept c.in_ok-write_bin_record.ensures in
    record { told = all.ok; kept = all.counts.kept }

pub returns : goal.returns
returns g c =
    rows-all (bin_record_text c.args.at.now) c.args.lags c.args.bins c.args.cells.now tt c.loop-bin.bin c.loop-bin.auto.bin-end c.loop-bin-test.false
    c.loop-bin.invariant.told c.loop-bin.invariant.kept
