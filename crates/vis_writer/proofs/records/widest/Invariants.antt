use Rattle.std.proofs.Common.{◌≡◌, max, take}
use Rattle.std.specs.List.{fold}
use Rattle.vis_records.specs.Heads.{scan_of}
use Rattle.vis_writer.specs.Cells.{cells_of}
use Rattle.vis_writer.proofs.records.widest.Given as goal

abbrev pub invariant-loop-scan : goal.invariant-loop-scan
invariant-loop-scan l = l.most ≡ fold (λ most s. max most (cells_of l.head (scan_of s))) 0 (take l.scan-index l.scans)
