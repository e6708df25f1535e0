use Rattle.std.proofs.Common.{◌≡◌, ℕ, List, Err, rules, arith, length, sym, ap, ◌∙◌}
use Rattle.std.proofs.lemmas.List.{length-map}
use Rattle.vis_records.specs.Heads.{scan_of}
use Rattle.vis_writer.specs.Cells.{CellsOf}
use Rattle.vis_writer.specs.Texts.{text_at}
use Rattle.vis_writer.proofs.WritesLemmas.{Writes-next, Writes-cut}
use Rattle.vis_writer.proofs.writer.write_scans.Goals as goal

pub returns-in_err-write_scan_at : goal.returns-in_err-write_scan_at
returns-in_err-write_scan_at g c =
    let laws = g.met.C.CellSource.composes in
    let text : CellsOf → ℕ → List ℕ = λ of. text_at c.args.head.now of in
    let many : length c.args.head.now.scans ≡ length c.scans-number-end.result.now = sym (ap length c.scans-number-end.ensures.scans) ∙ length-map c.scans-number-end.result.now scan_of in
    let failed : c.from_residual.result ≡ Err c.in_err-write_scan_at.field-0.0 = search rules in
    Writes-cut _ _ _ _ laws text c.loop-number.number (length c.args.head.now.scans) _ _ _ _ _ _ (omega (arith, many, c.loop-number-test.true)) failed
    (Writes-next _ _ _ _ laws text c.loop-number.number _ _ _ _ _ _ _ _ _ c.loop-number.invariant c.in_err-write_scan_at.ensures)

pub loop-number-preserved : goal.loop-number-preserved
loop-number-preserved g c =
    let laws = g.met.C.CellSource.composes in
    let text : CellsOf → ℕ → List ℕ = λ of. text_at c.args.head.now of in
    Writes-next _ _ _ _ laws text c.loop-number.number _ _ _ _ _ _ _ _ _ c.loop-number.invariant c.in_ok-write_scan_at.ensures
