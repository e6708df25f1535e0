use Rattle.std.proofs.Common.{◌||◌, false, bytes_eq, is_some, ap, ◌∙◌}
use Rattle.std.proofs.lemmas.List.{take_all}
use Rattle.std.specs.List.{list_any}
use Rattle.scan_list.specs.declared.scan.Scan.{Scan}
use Rattle.named_list.specs.Named.{named}
use Rattle.job_join.proofs.Sets.{any-turn}
use Rattle.job_join.proofs.names.scan_names.Goals as goal

pub loop-scan-preserved : goal.loop-scan-preserved
loop-scan-preserved c q =
    any-turn (λ (scan : Scan). bytes_eq scan.name q) false c.args.scans.now c.loop-scan.scan-index c.scan-item.result _ _ c.loop-scan-test.true c.scan-item.is (c.loop-scan.invariant q)
    (c.in_ok-keep.ensures q ∙ ap (λ name. is_some (named c.loop-scan.set q) || bytes_eq name q) c.bytes.ensures)

pub returns : goal.returns
returns c q =
    c.loop-scan.invariant q ∙ ap (list_any (λ (scan : Scan). bytes_eq scan.name q)) (take_all c.loop-scan.scan-index c.args.scans.now c.loop-scan-test.false)
