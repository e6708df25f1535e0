use Rattle.std.proofs.Common.{◌≡◌, ◌∙◌, Err, sym, ap, subst, arith}
use Rattle.std.proofs.lemmas.List.{length-take}
use Rattle.corr_model.specs.Files.{Files}
use Rattle.job_plan.specs.declared.plan.Plan.{Plan}
use Rattle.job_plan.specs.Ranges.{IsScanPlan}
use Rattle.job_plan.specs.Values.{rotated}
use Rattle.bin_sums.specs.Binned.{bin_width, integration_bin_cells}
use Rattle.vis_writer.proofs.WritesLemmas.{where_then}
use Rattle.run_bins.specs.Jobs.{plan_of}
use Rattle.run_bins.specs.Rows.{sums_text}
use Rattle.run_bins.proofs.SumsText.{sums-text}
use Rattle.run_bins.proofs.WriteLemmas.{writes-is, writes-sunk, writes-unread, integration-at, scan-planned, scan-few, still-ready}
use Rattle.run_bins.proofs.writer.write_integration.Goals as goal

pub width_of-requires-clause-scan : goal.width_of-requires-clause-scan
width_of-requires-clause-scan g c =
    subst (λ (p : Plan). IsScanPlan p c.args.scan.now) (sym c.plan-plan.ensures.same)
    (scan-planned c.args.job.now.ready.plan c.args.number c.args.scan.now c.plan-plan.ensures.ranges c.requires.scan)

pub slice_bounds-sums-end : goal.slice_bounds-sums-end
slice_bounds-sums-end g c =
    let wide : c.width_of.result ≡ bin_width c.args.job.now.ready.plan c.args.job.now.bins c.args.scan.now =
    c.width_of.ensures ∙ ap (λ (p : Plan). bin_width p c.args.job.now.bins c.args.scan.now) c.plan-plan.ensures.same in
    omega (arith, wide, c.requires.room)

pub sum_integration-requires-clause-few : goal.sum_integration-requires-clause-few
sum_integration-requires-clause-few g c κs within =
    scan-few c.args.job.now.ready.plan c.args.job.now.bins c.args.number c.args.scan.now c.requires.scan c.args.job.now.few

pub sum_integration-requires-clause-room : goal.sum_integration-requires-clause-room
sum_integration-requires-clause-room g c =
    let wide : c.width_of.result ≡ bin_width c.args.job.now.ready.plan c.args.job.now.bins c.args.scan.now =
    c.width_of.ensures ∙ ap (λ (p : Plan). bin_width p c.args.job.now.bins c.args.scan.now) c.plan-plan.ensures.same in
    omega (arith, wide, c.requires.room, length-take c.width_of.result c.args.cells.now)

pub returns-in-Err-clause-written : goal.returns-in-Err-clause-written
returns-in-Err-clause-written g c =
    writes-is (ap Err c.unread.ensures)
    (writes-unread c.in-Err.fault (integration-at (plan_of c.args.job.now) c.args.number c.args.scan.now c.args.m) c.in-Err.ensures.same c.in-Err.ensures.counts.cause)

pub returns-in-Ok-clause-written : goal.returns-in-Ok-clause-written
returns-in-Ok-clause-written g c =
    let x = plan_of c.args.job.now in
    let text = integration-at (plan_of c.args.job.now) c.args.number c.args.scan.now c.args.m in
    writes-is c.sunk.ensures
    (writes-sunk c.write_sums.result (sums_text x c.args.number c.args.scan.now c.args.m c.sum_integration.new.cells) text
    c.in-Ok.ensures.same c.in-Ok.ensures.counts.kept
    (where_then (g.F.Shelf.told c.args.shelf.now)
    (λ (f : Files). c.sum_integration.new.cells ≡ integration_bin_cells x.plan x.bins (rotated x.plan f c.args.scan.now) c.args.scan.now c.args.m)
    (λ (f : Files). sums_text x c.args.number c.args.scan.now c.args.m c.sum_integration.new.cells ≡ integration-at x c.args.number c.args.scan.now c.args.m f)
    (λ f same. ap (sums_text x c.args.number c.args.scan.now c.args.m) same ∙ sums-text x (rotated x.plan f c.args.scan.now) c.args.number c.args.scan.now c.args.m)
    c.in-Ok.ensures.cells)
    c.write_sums.ensures)

pub returns-in-Err-clause-ready : goal.returns-in-Err-clause-ready
returns-in-Err-clause-ready g c = still-ready c.args.job.now c.in-Err.ensures.same c.requires.ready c.in-Err.ensures.ahead

pub returns-in-Ok-clause-ready : goal.returns-in-Ok-clause-ready
returns-in-Ok-clause-ready g c = still-ready c.args.job.now c.in-Ok.ensures.same c.requires.ready c.in-Ok.ensures.ahead
