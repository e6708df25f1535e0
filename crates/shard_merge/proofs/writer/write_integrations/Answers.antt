use Rattle.std.proofs.Common.{◌≡◌, ℕ, List, Ok, Err, rules, arith}
use Rattle.vis_records.specs.Heads.{scan_of}
use Rattle.vis_writer.specs.Cells.{CellsOf, integrations_of}
use Rattle.vis_writer.specs.Texts.{integration_at}
use Rattle.shard_merge.proofs.WriterCalls.{merged-none, merged-next, merged-cut, merged-whole}
use Rattle.shard_merge.proofs.writer.write_integrations.Goals as goal

pub loop-m-init : goal.loop-m-init
loop-m-init g c = merged-none _ _ _ _ _ c.args.shelf.now _ _

pub returns-in_err-write_integration : goal.returns-in_err-write_integration
returns-in_err-write_integration g c =
    let text : CellsOf → ℕ → List ℕ = λ of m. integration_at c.args.head.now c.args.number m (of c.args.number m) in
    let failed : c.from_residual.result ≡ Err c.in_err-write_integration.field-0.0 = search rules in
    let end : c.div_ceil-m-end.result ≡ integrations_of c.args.head.now (scan_of c.args.scan.now) = search rules in
    merged-cut _ _ _ _ _ text c.loop-m.m (integrations_of c.args.head.now (scan_of c.args.scan.now)) _ _ _ _ _ _ (omega (arith, end, c.loop-m-test.true)) failed
    (merged-next _ _ _ _ _ {r = Err c.in_err-write_integration.field-0.0} text c.loop-m.m _ _ _ _ _ _ _ _ _ c.loop-m.invariant c.in_err-write_integration.ensures)

pub loop-m-preserved : goal.loop-m-preserved
loop-m-preserved g c =
    let text : CellsOf → ℕ → List ℕ = λ of m. integration_at c.args.head.now c.args.number m (of c.args.number m) in
    merged-next _ _ _ _ _ {r = Ok tt} text c.loop-m.m _ _ _ _ _ _ _ _ _ c.loop-m.invariant c.in_ok-write_integration.ensures

pub returns : goal.returns
returns g c =
    let text : CellsOf → ℕ → List ℕ = λ of m. integration_at c.args.head.now c.args.number m (of c.args.number m) in
    let end : c.div_ceil-m-end.result ≡ integrations_of c.args.head.now (scan_of c.args.scan.now) = search rules in
    merged-whole _ _ _ _ _ text c.loop-m.m (integrations_of c.args.head.now (scan_of c.args.scan.now)) _ _ _ _ _ _
    (omega (arith, end, c.loop-m-test.false, c.loop-m.auto.m-end)) c.loop-m.invariant
