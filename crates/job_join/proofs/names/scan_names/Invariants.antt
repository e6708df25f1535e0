use Rattle.std.proofs.Common.{◌≡◌, ℕ, List, take, bytes_eq, is_some}
use Rattle.std.specs.List.{list_any}
use Rattle.named_list.specs.Named.{named}
use Rattle.scan_list.specs.declared.scan.Scan.{Scan}
use Rattle.job_join.proofs.names.scan_names.Given as goal

abbrev pub invariant-loop-scan : goal.invariant-loop-scan
invariant-loop-scan l = (q : List ℕ) → is_some (named l.set q) ≡ list_any (λ (scan : Scan). bytes_eq scan.name q) (take l.scan-index l.scans)
