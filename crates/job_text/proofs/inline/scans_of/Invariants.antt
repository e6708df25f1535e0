use Rattle.std.proofs.Common.{◌≡◌, map, take}
use Rattle.job_text.specs.Inline.{scan_of}
use Rattle.job_text.proofs.inline.scans_of.Given as goal

abbrev pub invariant-loop-i : goal.invariant-loop-i
invariant-loop-i l = l.scans.items ≡ map (scan_of l.rate l.chans l.stations) (take l.i l.spans)
