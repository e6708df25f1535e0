use Rattle.std.proofs.Common.{◌<◌, length, ap, arith}
use Rattle.std.proofs.lemmas.List.{length-map}
use Rattle.vis_records.specs.Heads.{scan_of}
use Rattle.fringe_search.proofs.Counting.{scan_known}
use Rattle.fringe_search.proofs.places.scan.Goals as goal

pub returns-clause-is : goal.returns-clause-is
returns-clause-is c =
    let within : c.args.number < length c.scans-scans.result.now = omega (arith, ap length c.scans-scans.ensures.scans, length-map c.scans-scans.result.now scan_of) in
    scan_known c.args.head.now c.scans-scans.result.now c.args.number _ c.scans-scans.ensures.scans within c.index-scans-i.is
