use Rattle.std.proofs.Common.{◌≡◌, ℕ, not, is_some, List, Option, option_map, ap, ◌∙◌}
use Rattle.std.specs.List.{position}
use Rattle.named_list.specs.Named.{named}
use Rattle.job_text.specs.Job.{StationFields}
use Rattle.job_join.specs.declared.fault.JoinFault.TheVariants.{UnknownStation}
use Rattle.job_join.specs.declared.joining.Joining.{Joining}
use Rattle.job_join.specs.Standing.{unknown_station}
use Rattle.job_join.specs.Joining.{scans_of, IsJoining}
use Rattle.job_join.proofs.JoinLemmas.{unknown_station-places}
use Rattle.job_join.proofs.joining.Joining.unknown_station.Goals as goal

found : (j : Joining) (stations : List StationFields) (o : Option ℕ) → IsJoining j → stations ≡ j.job.now.stations
    → o ≡ position (λ (s : StationFields). not (is_some (named j.station_keys s.key))) stations → o ≡ unknown_station j.job.now (scans_of j)
found j stations o joining same is =
    is
    ∙ ap (position (λ (s : StationFields). not (is_some (named j.station_keys s.key)))) same
    ∙ ap (λ test. position test j.job.now.stations) (λ i s. not (joining.station_keys s.key i))
    ∙ unknown_station-places j.job.now (scans_of j) j.places.items joining.visits

pub returns-in-None : goal.returns-in-None
returns-in-None c = ap (option_map UnknownStation) (found c.args.self.now _ _ c.requires c.stations.ensures.value c.in-None.ensures)

pub returns-in-Some : goal.returns-in-Some
returns-in-Some c = ap (option_map UnknownStation) (found c.args.self.now _ _ c.requires c.stations.ensures.value c.in-Some.ensures)
