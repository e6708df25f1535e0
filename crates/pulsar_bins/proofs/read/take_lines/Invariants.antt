use Rattle.std.proofs.Common.{length}
use Rattle.std.specs.Str.Lines.{lines}
use Rattle.pulsar_bins.proofs.ReadLemmas.{IsReading}
use Rattle.pulsar_bins.proofs.read.take_lines.Given as goal

abbrev pub invariant-lines : goal.invariant-lines
invariant-lines l = IsReading (lines l.text) l.said l.number l.left

abbrev pub decreases-lines : goal.decreases-lines
decreases-lines l = length l.left
