use Rattle.std.proofs.Common.{◌≡◌, ◌^◌, ◌<◌, ◌∙◌, ap, sym, subst, map, length}
use Rattle.corr_model.specs.Records.{IsHead}
use Rattle.job_plan.specs.declared.plan.Plan.{Plan}
use Rattle.job_plan.specs.Ranges.{IsPlan}
use Rattle.job_plan.specs.Output.{head_scan, product_names}
use Rattle.vis_writer.specs.PlanCells.{key_of}
use Rattle.vis_writer.proofs.PlanHead.{head_is, head_from-plan}
use Rattle.vis_writer.proofs.head.head_of_plan.Goals as goal

pub new-requires : goal.new-requires
new-requires c =
    let p = c.plan-parts.result.now in
    let same : p ≡ c.args.plan.now = c.plan-parts.ensures.same in
    let few : length p.scans < 2 ^ 32 = subst (λ (p : Plan). length p.scans < 2 ^ 32) (sym same) c.requires in
    subst IsHead
    (sym (head_from-plan p _ _ _ _ c.from-rate.ensures
    (c.in_ok-stations.ensures ∙ ap (map key_of) c.items.ensures)
    (c.in_ok-products.ensures ∙ ap (λ l. map (product_names l) c.items-3.result.now) c.items-2.ensures ∙ ap (map (product_names p.channels)) c.items-3.ensures)
    (c.in_ok-scans.ensures ∙ ap (map head_scan) c.items-4.ensures)))
    (head_is p (subst IsPlan (sym same) c.plan-parts.ensures.ranges) few)
