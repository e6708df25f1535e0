use Rattle.std.proofs.Common.{◌≡◌, ◌∷◌, [], ℕ, List, map, flat_map, bytes_eq, ap, sym, ◌∙◌}
use Rattle.std.specs.List.{list_any}
use Rattle.scan_list.specs.declared.scan.Scan.{Scan}
use Rattle.job_join.specs.declared.places.Place.{Place}
use Rattle.job_join.specs.Standing.{rate_of}
use Rattle.job_join.specs.Channels.{channels_of, first_uses}
use Rattle.job_join.specs.Places.{visit_in, visit_of, has_key, rate_among}
use Rattle.job_join.proofs.JoinLemmas.{scans-held, rate_of-places}
use Rattle.job_join.proofs.joining.Joining.new.Goals as goal

pub returns-clause-scans : goal.returns-clause-scans
returns-clause-scans c = scans-held c.args.job.now c.args.scans.now c.in_ok-places.places.items c.in_ok-places.ensures

pub returns-clause-joining : goal.returns-clause-joining
unfolding channels_of
returns-clause-joining c =
    let job = c.args.job.now in
    let scans : List Scan = c.args.scans.now in
    let places : List Place = c.in_ok-places.places.items in
    let held : map (λ (p : Place). p.scan.now) places ≡ scans = scans-held job scans places c.in_ok-places.ensures in
    record {
      job = c.products.ensures.ranges;
      visits = c.in_ok-places.ensures ∙ ap (map (visit_in job)) (sym held);
      scan_names = λ q. c.in_ok-scan_names.ensures q ∙ ap (list_any (λ (scan : Scan). bytes_eq scan.name q)) (sym held);
      station_keys = λ q. c.in_ok-station_keys.ensures q ∙ ap (list_any (λ (p : Place). has_key q (visit_of p))) c.deref.ensures.value;
      channels = c.in_ok-channels.ensures ∙ ap (λ ps. first_uses [] (flat_map (λ (p : List ℕ × List ℕ). p.0 ∷ p.1 ∷ []) ps)) c.products.ensures.value;
      rate = c.rate_of-rate.ensures ∙ ap (λ ps. rate_among (map visit_of ps)) c.deref-2.ensures.value ∙ rate_of-places job scans places c.in_ok-places.ensures ∙ ap (rate_of job) (sym held);
    }
