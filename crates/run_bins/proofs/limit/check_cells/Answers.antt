use Rattle.std.specs.Prelude.{find, option_map}
use Rattle.std.proofs.Common.{◌∙◌, List, sym, ap}
use Rattle.job_plan.specs.declared.plan.ScanPlan.{ScanPlan}
use Rattle.job_plan.specs.declared.plan.Plan.{Plan}
use Rattle.bin_sums.specs.Binned.{bin_width}
use Rattle.run_bins.specs.Outcome.{is_wide}
use Rattle.run_bins.proofs.LimitLemmas.{few-cells, none-wide}
use Rattle.run_bins.proofs.limit.check_cells.Goals as goal

pub returns-in-None-clause-few : goal.returns-in-None-clause-few
returns-in-None-clause-few c =
    let bins = c.args.bins.now in
    let within = c.plan-within.result.now in
    few-cells c.args.plan.now c.args.bins.now c.args.plan.now.scans
    (none-wide c.args.plan.now c.args.bins.now
    (sym c.in-None.is ∙ c.first_wide.ensures
    ∙ ap (λ (l : List ScanPlan). option_map (bin_width within bins) (find (is_wide within bins) l)) c.items.ensures
    ∙ ap (λ (p : Plan). option_map (bin_width p bins) (find (is_wide p bins) p.scans)) c.plan-within.ensures.same))
