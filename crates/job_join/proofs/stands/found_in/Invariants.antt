use Rattle.std.proofs.Common.{◌≡◌, take, filter_map}
use Rattle.job_join.specs.Places.{stands_of, found_at}
use Rattle.job_join.proofs.stands.found_in.Given as goal

abbrev pub invariant-loop-pass : goal.invariant-loop-pass
invariant-loop-pass l = stands_of l.found.items ≡ filter_map (found_at l.stations) (take l.pass-index l.passes)
