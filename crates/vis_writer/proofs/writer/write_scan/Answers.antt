use Rattle.std.proofs.Common.{◌≡◌, ℕ, List, Err, rules, arith}
use Rattle.vis_records.specs.Heads.{scan_of}
use Rattle.vis_writer.specs.Cells.{CellsOf, integrations_of}
use Rattle.vis_writer.specs.Texts.{integration_text}
use Rattle.vis_writer.proofs.WritesLemmas.{Writes-next, Writes-cut}
use Rattle.vis_writer.proofs.writer.write_scan.Goals as goal

pub returns-in_err-write_integration : goal.returns-in_err-write_integration
returns-in_err-write_integration g c =
    let laws = g.met.C.CellSource.composes in
    let s = scan_of c.args.scan.now in
    let text : CellsOf → ℕ → List ℕ = λ of. integration_text c.args.head.now c.args.number s of in
    let failed : c.from_residual.result ≡ Err c.in_err-write_integration.field-0.0 = search rules in
    let end : c.div_ceil-m-end.result ≡ integrations_of c.args.head.now s = search rules in
    Writes-cut _ _ _ _ laws text c.loop-m.m (integrations_of c.args.head.now s) _ _ _ _ _ _ (omega (arith, end, c.loop-m-test.true)) failed
    (Writes-next _ _ _ _ laws text c.loop-m.m _ _ _ _ _ _ _ _ _ c.loop-m.invariant c.in_err-write_integration.ensures)

pub loop-m-preserved : goal.loop-m-preserved
loop-m-preserved g c =
    let laws = g.met.C.CellSource.composes in
    let text : CellsOf → ℕ → List ℕ = λ of. integration_text c.args.head.now c.args.number (scan_of c.args.scan.now) of in
    Writes-next _ _ _ _ laws text c.loop-m.m _ _ _ _ _ _ _ _ _ c.loop-m.invariant c.in_ok-write_integration.ensures
