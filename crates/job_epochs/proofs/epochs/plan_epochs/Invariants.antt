-- The sizes so far are those of the scans so far.
use Rattle.std.proofs.Common.{◌≡◌, map, take}
use Rattle.job_epochs.specs.Sizes.{size_of}
use Rattle.job_epochs.proofs.epochs.plan_epochs.Given as goal

abbrev pub invariant-loop-scan : goal.invariant-loop-scan
invariant-loop-scan l = l.sizes.items ≡ map (size_of l.plan) (take l.scan-index l.scan-items)
