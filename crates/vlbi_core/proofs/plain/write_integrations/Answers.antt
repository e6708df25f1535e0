use Rattle.std.proofs.Common.{◌≡◌, ℕ, List, Ok, Err, rules, arith, subst}
use Rattle.std.specs.List.{flat_map, range_with_len}
use Rattle.job_plan.specs.Output.{integrations_of}
use Rattle.vis_writer.specs.Cells.{CellsOf}
use Rattle.vis_writer.specs.Texts.{integration_at}
use Rattle.vis_writer.specs.Writes.{Writes}
use Rattle.vis_writer.proofs.WritesLemmas.{Writes-next, Writes-cut}
use Rattle.vlbi_core.specs.Shelf.{state, head_at, cells_at, stays, fails}
use Rattle.vlbi_core.proofs.PlainLemmas.{stays-composes}
use Rattle.vlbi_core.proofs.plain.write_integrations.Goals as goal

pub returns-in_err-write_integration : goal.returns-in_err-write_integration
returns-in_err-write_integration g c =
    let text : CellsOf → ℕ → List ℕ = λ of m. integration_at c.args.head.now c.args.number m (of c.args.number m) in
    let failed : c.from_residual.result ≡ Err c.in_err-write_integration.field-0.0 = search rules in
    let end : c.div_ceil-m-end.result ≡ integrations_of c.args.plan.now c.args.scan.now = search rules in
    Writes-cut _ _ _ _ stays-composes text c.loop-m.m (integrations_of c.args.plan.now c.args.scan.now) _ _ _ _ _ _ (omega (arith, end, c.loop-m-test.true)) failed
    (Writes-next _ _ _ _ stays-composes text c.loop-m.m _ _ _ _ _ _ _ _ _ c.loop-m.invariant c.in_err-write_integration.ensures)

pub loop-m-preserved : goal.loop-m-preserved
loop-m-preserved g c =
    let text : CellsOf → ℕ → List ℕ = λ of m. integration_at c.args.head.now c.args.number m (of c.args.number m) in
    Writes-next _ _ _ _ stays-composes text c.loop-m.m _ _ _ _ _ _ _ _ _ c.loop-m.invariant c.in_ok-write_integration.ensures

pub returns : goal.returns
returns g c =
    let end : c.div_ceil-m-end.result ≡ integrations_of c.args.plan.now c.args.scan.now = search rules in
    let last : c.loop-m.m ≡ integrations_of c.args.plan.now c.args.scan.now = omega (arith, end, c.loop-m-test.false, c.loop-m.auto.m-end) in
    subst (λ n. Writes {T = Unit {0}} (head_at c.args.plan.now) (cells_at c.args.plan.now) stays fails
    (λ of. flat_map (λ m. integration_at c.args.head.now c.args.number m (of c.args.number m)) (range_with_len 0 n))
    (state (g.F.Shelf.told c.args.shelf.now) (g.F.Shelf.faults c.args.shelf.now)) (state (g.F.Shelf.told c.loop-m.shelf) (g.F.Shelf.faults c.loop-m.shelf))
    (g.S.Sink.told c.args.out.now) (g.S.Sink.told c.loop-m.out) (g.S.Sink.faults c.args.out.now) (g.S.Sink.faults c.loop-m.out) (Ok tt))
    last c.loop-m.invariant
