use Rattle.std.proofs.Common.{◌≡◌, ℕ, List, ◌+◌, Err, rules, arith, length, ap, ◌∙◌}
use Rattle.std.proofs.lemmas.List.{length-map}
use Rattle.corr_model.specs.Records.{Head}
use Rattle.job_plan.specs.Output.{head_scan}
use Rattle.vis_writer.specs.Cells.{CellsOf}
use Rattle.vis_writer.specs.Texts.{text_at}
use Rattle.journal_records.specs.Places.{place_of_scan}
use Rattle.journal_records.specs.Store.{store}
use Rattle.journal_records.proofs.StoreLemmas.{reaches-none, reaches-both, cells-rests, cells-none, cells-next, cells-cut}
use Rattle.journal_records.proofs.writer.write_scans.Goals as goal

pub returns-in_err-write_scan : goal.returns-in_err-write_scan
returns-in_err-write_scan g c =
    let text : CellsOf → ℕ → List ℕ = λ of. text_at c.args.head.now of in
    let listed : length c.items-number-end.result.now ≡ length c.args.plan.now.scans = ap length c.items-number-end.ensures in
    let many : length c.args.head.now.scans ≡ length c.args.plan.now.scans = ap (λ (h : Head). length h.scans) c.requires.head ∙ length-map c.args.plan.now.scans head_scan in
    let failed : c.from_residual.result ≡ Err c.in_err-write_scan.field-0.0 = search rules in
    cells-cut _ _ _ _ _ _ text c.loop-number.number (length c.args.head.now.scans) _ _ _ _ _ _ _ (omega (arith, listed, many, c.loop-number-test.true)) failed
    (cells-next _ _ _ _ _ _ text c.loop-number.number _ _ _ _ _ _ _ _ _ _ _ c.loop-number.invariant.reaches c.loop-number.invariant.written c.in_err-write_scan.ensures.written)

pub loop-number-preserved : goal.loop-number-preserved
loop-number-preserved g c =
    let text : CellsOf → ℕ → List ℕ = λ of. text_at c.args.head.now of in
    record {
      stands = c.in_ok-write_scan.ensures.stands;
      reaches = reaches-both _ _ _ _ (place_of_scan c.args.epochs.now 0) (place_of_scan c.args.epochs.now c.loop-number.number)
          (place_of_scan c.args.epochs.now (c.loop-number.number + 1)) (store c.args.journal.now c.args.disk.now) (store c.loop-number.journal c.loop-number.disk)
          (store c.write_scan.new.journal c.write_scan.new.disk)
          (cells-rests _ _ _ _ _ _ c.loop-number.invariant.written) c.loop-number.invariant.reaches c.in_ok-write_scan.ensures.reaches;
      written = cells-next _ _ _ _ _ _ text c.loop-number.number _ _ _ _ _ _ _ _ _ _ _ c.loop-number.invariant.reaches c.loop-number.invariant.written c.in_ok-write_scan.ensures.written;
    }

pub loop-number-init : goal.loop-number-init
loop-number-init g c = record {
  stands = c.requires.stands;
  reaches = reaches-none _ _ _ _ _ (store c.args.journal.now c.args.disk.now);
  written = cells-none _ _ _ _ _ _ _ (store c.args.journal.now c.args.disk.now) _ _;
}
