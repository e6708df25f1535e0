use Rattle.std.proofs.Common.{◌≡◌, ◌<◌, Some, length, sym, ap, ◌∙◌, subst}
use Rattle.std.specs.List.{slice_get, flat_map, range_with_len}
use Rattle.job_plan.specs.declared.plan.Plan.{Plan}
use Rattle.job_plan.specs.Output.{head_of, integrations_of}
use Rattle.vis_writer.specs.Texts.{integration_at, text_at}
use Rattle.vis_writer.specs.Writes.{Writes}
use Rattle.vis_writer.proofs.WritesLemmas.{Writes-same, where_always}
use Rattle.journal_records.proofs.StoreLemmas.{scan-there, scan-text}
use Rattle.vlbi_core.specs.Shelf.{state, head_at, cells_at, stays, fails}
use Rattle.vlbi_core.proofs.PlainLemmas.{stays-composes}
use Rattle.vlbi_core.proofs.plain.write_scan.Goals as goal

pub write_integrations-requires-clause-scan : goal.write_integrations-requires-clause-scan
write_integrations-requires-clause-scan g c =
    scan-there c.plan-plan.result.now c.items.result.now c.args.number c.index-items-number.result c.items.ensures
    (subst (λ (p : Plan). c.args.number < length p.scans) (sym c.plan-plan.ensures.same) c.requires.inside) c.index-items-number.is

pub write_integrations-requires-clause-head : goal.write_integrations-requires-clause-head
write_integrations-requires-clause-head g c = c.requires.head ∙ ap head_of (sym c.plan-plan.ensures.same)

pub write_integrations-requires-clause-recorded : goal.write_integrations-requires-clause-recorded
write_integrations-requires-clause-recorded g c = rw (c.plan-plan.ensures.same, c.deref.ensures.value) c.requires.recorded

pub returns : goal.returns
returns g c =
    let plan = c.args.ready.now.plan in
    let head = c.args.head.now in
    let n = c.args.number in
    let scan = c.index-items-number.result in
    let same = c.plan-plan.ensures.same in
    let there : slice_get plan.scans n ≡ Some scan =
    subst (λ (p : Plan). slice_get p.scans n ≡ Some scan) same
    (scan-there c.plan-plan.result.now c.items.result.now n scan c.items.ensures
    (subst (λ (p : Plan). n < length p.scans) (sym same) c.requires.inside) c.index-items-number.is) in
    Writes-same (head_at plan) (cells_at plan) stays fails stays-composes
    (λ of. flat_map (λ m. integration_at head n m (of n m)) (range_with_len 0 (integrations_of plan scan))) (λ of. text_at head of n)
    _ _ _ _ _ _
    (where_always _ (λ of. flat_map (λ m. integration_at head n m (of n m)) (range_with_len 0 (integrations_of plan scan)) ≡ text_at head of n)
    (scan-text plan head n scan c.requires.head there))
    (subst (λ (p : Plan). Writes (head_at p) (cells_at p) stays fails
    (λ of. flat_map (λ m. integration_at head n m (of n m)) (range_with_len 0 (integrations_of p scan)))
    (state (g.F.Shelf.told c.args.shelf.now) (g.F.Shelf.faults c.args.shelf.now))
    (state (g.F.Shelf.told c.write_integrations.new.shelf) (g.F.Shelf.faults c.write_integrations.new.shelf))
    (g.S.Sink.told c.args.out.now) (g.S.Sink.told c.write_integrations.new.out) (g.S.Sink.faults c.args.out.now) (g.S.Sink.faults c.write_integrations.new.out)
    c.write_integrations.result) same c.write_integrations.ensures)
