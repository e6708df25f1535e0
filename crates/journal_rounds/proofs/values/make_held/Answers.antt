use Rattle.std.proofs.Common.{None, subst}
use Rattle.job_plan.specs.declared.plan.ScanPlan.{ScanPlan}
use Rattle.job_plan.specs.declared.plan.Plan.{Plan}
use Rattle.run_sums.specs.Found.{IsOfScan}
use Rattle.run_sums.specs.Frames.{HoldsFrames}
use Rattle.run_sums.proofs.FoundLemmas.{scan-one}
use Rattle.journal_rounds.proofs.values.make_held.Goals as goal

pub make_epoch-requires-clause-held : goal.make_epoch-requires-clause-held
make_epoch-requires-clause-held g c κs within =
    let ready = c.args.ready.now in
    let framed = c.args.framed in
    let scan = c.scan_of-scan.result.now in
    let found : IsOfScan ready.plan scan framed.epoch = subst (λ (p : Plan). IsOfScan p scan framed.epoch) c.plan.ensures.same c.scan_of-scan.ensures in
    subst (λ (s : ScanPlan). HoldsFrames None ready.plan ready.recordings.items s framed.epoch framed.frames)
    (scan-one ready.plan c.requires.framed.scan scan framed.epoch c.requires.framed.of_scan found) c.requires.framed.frames

pub returns-clause-values : goal.returns-clause-values
returns-clause-values g c = λ told is.
    let ready = c.args.ready.now in
    let framed = c.args.framed in
    let scan = c.scan_of-scan.result.now in
    let found : IsOfScan ready.plan scan framed.epoch = subst (λ (p : Plan). IsOfScan p scan framed.epoch) c.plan.ensures.same c.scan_of-scan.ensures in record {
      fits = is.fits;
      scan = scan;
      of_scan = found;
      values = c.in_ok-values.ensures told (subst (λ (s : ScanPlan). HoldsFrames told ready.plan ready.recordings.items s framed.epoch framed.frames)
          (scan-one ready.plan is.scan scan framed.epoch is.of_scan found) is.frames);
    }
