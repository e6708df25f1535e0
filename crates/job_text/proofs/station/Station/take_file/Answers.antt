use Rattle.std.specs.Str.{IsUtf8}
use Rattle.job_text.proofs.StationLemmas.{IsStationOf-file}
use Rattle.job_text.proofs.station.Station.take_file.Goals as goal

pub invariant_of-self-2 : goal.invariant_of-self-2
invariant_of-self-2 c =
    let named : IsUtf8 c.in_ok-file.file = rw (c.in_ok-file.ensures, c.field.ensures) c.requires in
    rw c.in_ok-push.ensures.items (IsStationOf-file _ c.in_ok-file.file c.self.invariant named)

pub returns-clause-sound : goal.returns-clause-sound
returns-clause-sound c =
    let named : IsUtf8 c.in_ok-file.file = rw (c.in_ok-file.ensures, c.field.ensures) c.requires in
    rw c.in_ok-push.ensures.items (IsStationOf-file _ c.in_ok-file.file c.self.invariant named)
