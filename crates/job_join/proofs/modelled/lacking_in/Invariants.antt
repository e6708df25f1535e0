use Rattle.std.proofs.Common.{◌≡◌, drop}
use Rattle.job_join.specs.Needs.{lacking_of}
use Rattle.job_join.specs.Places.{stands_of}
use Rattle.job_join.proofs.modelled.lacking_in.Given as goal

abbrev pub invariant-loop-here : goal.invariant-loop-here
invariant-loop-here l =
    lacking_of l.need l.job l.rate l.place.scan.now l.samples (stands_of (drop l.here-index l.place.stands.items))
    ≡ lacking_of l.need l.job l.rate l.place.scan.now l.samples (stands_of l.place.stands.items)
