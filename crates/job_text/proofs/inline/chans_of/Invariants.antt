use Rattle.std.proofs.Common.{◌≡◌, map, take}
use Rattle.job_text.specs.Inline.{chan_of}
use Rattle.job_text.proofs.inline.chans_of.Given as goal

abbrev pub invariant-loop-i : goal.invariant-loop-i
invariant-loop-i l = l.chans.items ≡ map chan_of (take l.i l.bands)
