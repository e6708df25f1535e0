use Rattle.std.specs.Prelude.{find}
use Rattle.std.proofs.Common.{◌≡◌, drop}
use Rattle.run_bins.specs.Outcome.{is_wide}
use Rattle.run_bins.proofs.limit.first_wide.Given as goal

abbrev pub invariant-loop-scan : goal.invariant-loop-scan
invariant-loop-scan l = find (is_wide l.plan l.bins) (drop l.scan-index l.scans) ≡ find (is_wide l.plan l.bins) l.scans
