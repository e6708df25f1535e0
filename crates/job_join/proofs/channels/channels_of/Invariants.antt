use Rattle.std.proofs.Common.{◌≡◌, take}
use Rattle.job_join.proofs.ChannelsLemmas.{used}
use Rattle.job_join.proofs.channels.channels_of.Given as goal

abbrev pub invariant-loop-i : goal.invariant-loop-i
invariant-loop-i l = l.channels ≡ used (take l.i l.products)
