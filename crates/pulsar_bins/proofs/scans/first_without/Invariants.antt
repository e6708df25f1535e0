use Rattle.std.proofs.Common.{◌≡◌, drop, not}
use Rattle.std.specs.List.{position, position_from}
use Rattle.job_plan.specs.declared.plan.ScanPlan.{ScanPlan}
use Rattle.pulsar_bins.specs.Scans.{has_phase}
use Rattle.pulsar_bins.proofs.scans.first_without.Given as goal

abbrev pub invariant-loop-i : goal.invariant-loop-i
invariant-loop-i l =
    position_from (λ (scan : ScanPlan). not (has_phase l.plan l.bins scan)) l.i (drop l.i l.scans)
    ≡ position (λ (scan : ScanPlan). not (has_phase l.plan l.bins scan)) l.scans
