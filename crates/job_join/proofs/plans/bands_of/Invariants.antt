use Rattle.std.proofs.Common.{◌≡◌, map, take}
use Rattle.named_list.specs.Named.{names}
use Rattle.job_join.specs.Channels.{chan_with}
use Rattle.job_join.specs.Joined.{band_of}
use Rattle.job_join.proofs.plans.bands_of.Given as goal

abbrev pub invariant-loop-i : goal.invariant-loop-i
invariant-loop-i l = l.bands.items ≡ map (λ name. band_of (chan_with l.pass name)) (take l.i (names l.channels))
