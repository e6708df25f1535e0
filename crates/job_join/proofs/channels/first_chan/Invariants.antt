use Rattle.std.proofs.Common.{◌≡◌, drop, slice_get}
use Rattle.job_join.specs.Places.{stands_of, chans_under}
use Rattle.job_join.proofs.channels.first_chan.Given as goal

abbrev pub invariant-loop-here : goal.invariant-loop-here
invariant-loop-here l = slice_get (chans_under (stands_of (drop l.here-index l.stands)) l.name) 0 ≡ slice_get (chans_under (stands_of l.stands) l.name) 0
