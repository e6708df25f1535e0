use Rattle.std.proofs.Common.{◌≡◌, map, take}
use Rattle.job_text.specs.Inline.{pass_of}
use Rattle.job_text.proofs.inline.passes_of.Given as goal

abbrev pub invariant-loop-station : goal.invariant-loop-station
invariant-loop-station l = l.passes.items ≡ map (pass_of l.rate l.chans l.samples) (take l.station-index l.stations)
