use Rattle.std.proofs.Common.{◌≡◌, ℕ, List, take, bytes_eq}
use Rattle.std.specs.List.{position}
use Rattle.named_list.specs.Named.{named}
use Rattle.job_text.specs.Job.{StationFields}
use Rattle.job_join.proofs.stands.station_numbers.Given as goal

abbrev pub invariant-loop-i : goal.invariant-loop-i
invariant-loop-i l = (q : List ℕ) → named l.numbers q ≡ position (λ (s : StationFields). bytes_eq s.key q) (take l.i l.stations)
