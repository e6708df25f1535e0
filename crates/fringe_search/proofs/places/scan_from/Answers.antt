use Rattle.std.proofs.Common.{◌<◌, ◌≤◌, length, ap, arith}
use Rattle.std.proofs.lemmas.List.{length-map}
use Rattle.vis_records.specs.Heads.{scan_of}
use Rattle.fringe_search.proofs.Turns.{scan_opens, scans-none, scan_good}
use Rattle.fringe_search.proofs.places.scan_from.Goals as goal

pub returns-then-scan-count-clause-rest : goal.returns-then-scan-count-clause-rest
returns-then-scan-count-clause-rest c =
    let within : c.args.scan < length c.args.head.now.scans = omega (arith, ap length c.scans-count.ensures.scans, length-map c.scans-count.result.now scan_of) in
    scan_opens c.args.head.now c.args.scan c.scans-count.ensures.head within

pub returns-else-scan-count-clause-rest : goal.returns-else-scan-count-clause-rest
returns-else-scan-count-clause-rest c =
    let past : length c.args.head.now.scans ≤ c.args.scan = omega (arith, ap length c.scans-count.ensures.scans, length-map c.scans-count.result.now scan_of) in
    scans-none c.args.head.now c.args.scan past

pub returns-then-scan-count-clause-within : goal.returns-then-scan-count-clause-within
returns-then-scan-count-clause-within c =
    let within : c.args.scan < length c.args.head.now.scans = omega (arith, ap length c.scans-count.ensures.scans, length-map c.scans-count.result.now scan_of) in
    let good = scan_good c.args.head.now c.args.scan c.scans-count.ensures.head within in
    record { scan = within; product = omega (arith, c.scans-count.ensures.head.some_product); baseline = omega (arith, good.some_baseline) }
