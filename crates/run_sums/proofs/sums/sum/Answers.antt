use Rattle.std.proofs.Common.{None, subst}
use Rattle.job_plan.specs.declared.plan.Plan.{Plan}
use Rattle.run_sums.specs.Found.{IsOfScan}
use Rattle.run_sums.proofs.SumsLemmas.{held-summed, summed-held}
use Rattle.run_sums.proofs.sums.sum.Goals as goal

pub sum_planes-requires-clause-epoch : goal.sum_planes-requires-clause-epoch
sum_planes-requires-clause-epoch g c κs within =
    let held = c.requires.held in
    let scan = c.scan_of-scan.result.now in
    held-summed None c.args.ready.now.plan scan held.0 c.args.e.now c.args.values.now c.deref.result.now c.args.piece
    (subst (λ (p : Plan). IsOfScan p scan c.args.e.now) c.plan.ensures.same c.scan_of-scan.ensures) held.1 held.2 c.deref.ensures.value
    c.requires.piece.0 c.requires.piece.1

pub returns-clause-sums : goal.returns-clause-sums
returns-clause-sums g c told held is holds =
    let scan = c.scan_of-scan.result.now in
    summed-held told c.args.ready.now.plan scan held c.args.e.now c.args.values.now c.deref.result.now c.in_ok-sums.sums
    (subst (λ (p : Plan). IsOfScan p scan c.args.e.now) c.plan.ensures.same c.scan_of-scan.ensures) c.deref.ensures.value c.in_ok-sums.ensures.cells is holds
