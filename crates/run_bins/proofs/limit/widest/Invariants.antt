use Rattle.std.proofs.Common.{◌≤◌, take}
use Rattle.std.specs.List.{All}
use Rattle.bin_sums.specs.Binned.{bin_width}
use Rattle.run_bins.proofs.limit.widest.Given as goal

abbrev pub invariant-loop-scan : goal.invariant-loop-scan
invariant-loop-scan l = All (λ scan. bin_width l.plan l.bins scan ≤ l.most) (take l.scan-index l.scans)
