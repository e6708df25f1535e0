use Rattle.std.proofs.Common.{◌≡◌, map, take}
use Rattle.job_plan.specs.Output.{head_scan}
use Rattle.vis_records.specs.Heads.{scan_of}
use Rattle.vis_writer.proofs.head.scans_of.Given as goal

abbrev pub invariant-loop-scan : goal.invariant-loop-scan
invariant-loop-scan l = map scan_of l.made.items ≡ map head_scan (take l.scan-index l.scans)
