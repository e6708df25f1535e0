use Rattle.std.proofs.Common.{◌≡◌, ◌∙◌, ℕ, List, Ok, Err, rules, arith, length, sym, ap}
use Rattle.std.proofs.lemmas.List.{length-map}
use Rattle.vis_records.specs.Heads.{scan_of}
use Rattle.vis_writer.specs.Cells.{CellsOf}
use Rattle.vis_writer.specs.Texts.{text_at}
use Rattle.shard_merge.proofs.WriterCalls.{merged-none, merged-next, merged-cut, merged-whole}
use Rattle.shard_merge.proofs.writer.write_scans.Goals as goal

pub loop-number-init : goal.loop-number-init
loop-number-init g c = merged-none _ _ _ _ _ c.args.shelf.now _ _

pub returns-in_err-write_scan : goal.returns-in_err-write_scan
returns-in_err-write_scan g c =
    let text : CellsOf → ℕ → List ℕ = λ of. text_at c.args.head.now of in
    let many : length c.args.head.now.scans ≡ length c.scans-number-end.result.now = sym (ap length c.scans-number-end.ensures.scans) ∙ length-map c.scans-number-end.result.now scan_of in
    let failed : c.from_residual.result ≡ Err c.in_err-write_scan.field-0.0 = search rules in
    merged-cut _ _ _ _ _ text c.loop-number.number (length c.args.head.now.scans) _ _ _ _ _ _ (omega (arith, many, c.loop-number-test.true)) failed
    (merged-next _ _ _ _ _ {r = Err c.in_err-write_scan.field-0.0} text c.loop-number.number _ _ _ _ _ _ _ _ _ c.loop-number.invariant c.in_err-write_scan.ensures)

pub loop-number-preserved : goal.loop-number-preserved
loop-number-preserved g c =
    let text : CellsOf → ℕ → List ℕ = λ of. text_at c.args.head.now of in
    merged-next _ _ _ _ _ {r = Ok tt} text c.loop-number.number _ _ _ _ _ _ _ _ _ c.loop-number.invariant c.in_ok-write_scan.ensures

pub returns : goal.returns
returns g c =
    let text : CellsOf → ℕ → List ℕ = λ of. text_at c.args.head.now of in
    let many : length c.args.head.now.scans ≡ length c.scans-number-end.result.now = sym (ap length c.scans-number-end.ensures.scans) ∙ length-map c.scans-number-end.result.now scan_of in
    merged-whole _ _ _ _ _ text c.loop-number.number (length c.args.head.now.scans) _ _ _ _ _ _
    (omega (arith, many, c.loop-number-test.false, c.loop-number.auto.number-end)) c.loop-number.invariant
