use Rattle.std.proofs.Common.{map, ap, refl, ◌∙◌}
use Rattle.std.proofs.lemmas.List.{take_all}
use Rattle.scan_list.specs.Sound.{IsScan}
use Rattle.job_join.specs.Places.{visit_in, visit_of}
use Rattle.job_join.proofs.PlansLemmas.{map-onto, All-held}
use Rattle.job_join.proofs.places.numbered_places.Goals as goal

pub make_place-requires-clause-scan : goal.make_place-requires-clause-scan
make_place-requires-clause-scan c =
    All-held IsScan c.args.scans.now c.args.scans.now c.loop-scan.scan-index c.scan-item.result c.requires.scans.each refl c.loop-scan-test.true c.scan-item.is

pub loop-scan-preserved : goal.loop-scan-preserved
loop-scan-preserved c =
    map-onto visit_of (visit_in c.args.job.now) c.args.scans.now c.loop-scan.scan-index c.scan-item.result c.in_ok-place.place
    c.loop-scan.places.items c.push.new.self.items c.loop-scan-test.true c.scan-item.is c.in_ok-place.ensures c.loop-scan.invariant c.in_ok-push.ensures.items

pub returns : goal.returns
returns c = c.loop-scan.invariant ∙ ap (map (visit_in c.args.job.now)) (take_all c.loop-scan.scan-index c.args.scans.now c.loop-scan-test.false)
