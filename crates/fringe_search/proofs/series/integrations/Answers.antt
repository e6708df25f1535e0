use Rattle.std.proofs.Common.{ap, ap₂, ◌∙◌, arith}
use Rattle.std.specs.Int.{div_ceil}
use Rattle.corr_model.specs.Records.{HeadScan}
use Rattle.fringe_search.proofs.Counting.{div_ceil-le}
use Rattle.fringe_search.proofs.Turns.{scan_good}
use Rattle.fringe_search.proofs.series.integrations.Goals as goal

pub returns-clause-few : goal.returns-clause-few
returns-clause-few c =
    let good = scan_good c.args.head.now c.args.number c.scan-scan.ensures.head c.requires in
    let same = ap (λ (s : HeadScan). s.samples) c.scan-scan.ensures.is in
    let some = c.scan-scan.ensures.head.some_integration in
    let less = div_ceil-le c.scan-scan.result.now.samples c.integration-integration.result (omega (arith, some, c.integration-integration.ensures)) in
    omega (arith, c.div_ceil.ensures, less, same, good.samples)

pub returns-clause-value : goal.returns-clause-value
returns-clause-value c = c.div_ceil.ensures ∙ ap₂ div_ceil (ap (λ (s : HeadScan). s.samples) c.scan-scan.ensures.is) c.integration-integration.ensures
