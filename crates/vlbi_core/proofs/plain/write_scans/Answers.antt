use Rattle.std.proofs.Common.{◌≡◌, ℕ, List, Err, rules, arith, length, ap, ◌∙◌}
use Rattle.std.proofs.lemmas.List.{length-map}
use Rattle.corr_model.specs.Records.{Head}
use Rattle.job_plan.specs.declared.plan.Plan.{Plan}
use Rattle.job_plan.specs.Output.{head_scan}
use Rattle.vis_writer.specs.Cells.{CellsOf}
use Rattle.vis_writer.specs.Texts.{text_at}
use Rattle.vis_writer.proofs.WritesLemmas.{Writes-next, Writes-cut}
use Rattle.vlbi_core.proofs.PlainLemmas.{stays-composes}
use Rattle.vlbi_core.proofs.plain.write_scans.Goals as goal

pub returns-in_err-write_scan : goal.returns-in_err-write_scan
returns-in_err-write_scan g c =
    let plan = c.args.ready.now.plan in
    let text : CellsOf → ℕ → List ℕ = λ of. text_at c.args.head.now of in
    let listed : length c.items-number-end.result.now ≡ length plan.scans = ap length c.items-number-end.ensures ∙ ap (λ (p : Plan). length p.scans) c.plan.ensures.same in
    let many : length c.args.head.now.scans ≡ length plan.scans = ap (λ (h : Head). length h.scans) c.requires.head ∙ length-map plan.scans head_scan in
    let failed : c.from_residual.result ≡ Err c.in_err-write_scan.field-0.0 = search rules in
    Writes-cut _ _ _ _ stays-composes text c.loop-number.number (length c.args.head.now.scans) _ _ _ _ _ _ (omega (arith, listed, many, c.loop-number-test.true)) failed
    (Writes-next _ _ _ _ stays-composes text c.loop-number.number _ _ _ _ _ _ _ _ _ c.loop-number.invariant c.in_err-write_scan.ensures)

pub loop-number-preserved : goal.loop-number-preserved
loop-number-preserved g c =
    let text : CellsOf → ℕ → List ℕ = λ of. text_at c.args.head.now of in
    Writes-next _ _ _ _ stays-composes text c.loop-number.number _ _ _ _ _ _ _ _ _ c.loop-number.invariant c.in_ok-write_scan.ensures
