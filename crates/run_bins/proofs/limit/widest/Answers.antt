use Rattle.std.proofs.Common.{◌≡◌, ◌≤◌, List, length, max, rules, subst, arith}
use Rattle.std.specs.List.{All}
use Rattle.std.proofs.lemmas.List.{take_all}
use Rattle.job_plan.specs.declared.plan.ScanPlan.{ScanPlan}
use Rattle.bin_sums.specs.Binned.{bin_width}
use Rattle.run_bins.proofs.LimitLemmas.{most-more}
use Rattle.run_bins.proofs.limit.widest.Goals as goal

pub loop-scan-preserved : goal.loop-scan-preserved
loop-scan-preserved c =
    let top : c.max-most.result ≡ max c.loop-scan.most c.width_of.result = search rules in
    most-more c.args.plan.now c.args.bins.now c.args.scans.now c.loop-scan.scan-index c.scan-item.result c.loop-scan.most c.max-most.result
    c.loop-scan-test.true c.scan-item.is c.loop-scan.invariant
    (omega (arith, top)) (omega (arith, top, c.width_of.ensures))

pub returns : goal.returns
returns c =
    let past : length c.args.scans.now ≤ c.loop-scan.scan-index = omega (arith, c.loop-scan-test.false) in
    subst (λ (l : List ScanPlan). All (λ (scan : ScanPlan). bin_width c.args.plan.now c.args.bins.now scan ≤ c.loop-scan.most) l)
    (take_all c.loop-scan.scan-index c.args.scans.now past) c.loop-scan.invariant
