use Rattle.std.proofs.Common.{◌≡◌, [], Some, Option, sym, ap, ◌∙◌}
use Rattle.std.specs.List.{slice_get}
use Rattle.std.specs.Option.{option_map_or}
use Rattle.job_plan.specs.declared.plan.Plan.{Plan}
use Rattle.job_plan.specs.declared.plan.ScanPlan.{ScanPlan}
use Rattle.run_bins.specs.Jobs.{plan_of}
use Rattle.run_bins.specs.Texts.{scan_text}
use Rattle.run_bins.specs.Writes.{scan_text_at}
use Rattle.run_bins.proofs.WriteLemmas.{writes-same, scan-there, scan-within}
use Rattle.run_bins.proofs.writer.write_scan.Goals as goal

pub write_integrations-requires-clause-scan : goal.write_integrations-requires-clause-scan
write_integrations-requires-clause-scan g c κs within =
    scan-there c.args.job.now.ready.plan c.items.result.now c.args.number c.index-items-number.result
    (c.items.ensures ∙ ap (λ (p : Plan). p.scans) c.plan-plan.ensures.same) c.requires.inside c.index-items-number.is

pub write_integrations-requires-clause-room : goal.write_integrations-requires-clause-room
write_integrations-requires-clause-room g c κs within =
    scan-within c.args.job.now.ready.plan c.args.job.now.bins c.items.result.now c.args.number c.index-items-number.result _
    (c.items.ensures ∙ ap (λ (p : Plan). p.scans) c.plan-plan.ensures.same) c.requires.inside c.index-items-number.is c.requires.room

pub returns-clause-written : goal.returns-clause-written
returns-clause-written g c =
    let x = plan_of c.args.job.now in
    let n = c.args.number in
    let scan = c.index-items-number.result in
    let there : slice_get x.plan.scans n ≡ Some scan =
    scan-there x.plan c.items.result.now n scan (c.items.ensures ∙ ap (λ (p : Plan). p.scans) c.plan-plan.ensures.same) c.requires.inside c.index-items-number.is in
    writes-same (λ f. scan_text x f (n, scan)) (scan_text_at x n)
    (λ f. sym (ap (λ (o : Option ScanPlan). option_map_or (λ (scan : ScanPlan). scan_text x f (n, scan)) o []) there))
    c.write_integrations.ensures.written
