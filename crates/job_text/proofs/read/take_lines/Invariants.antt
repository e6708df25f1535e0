use Rattle.std.proofs.Common.{length}
use Rattle.std.specs.Str.Lines.{lines}
use Rattle.job_text.proofs.ReadLemmas.{IsReading}
use Rattle.job_text.proofs.read.take_lines.Given as goal

abbrev pub invariant-lines : goal.invariant-lines
invariant-lines l = IsReading l.inline (lines l.text) l.draft l.number l.left

abbrev pub decreases-lines : goal.decreases-lines
decreases-lines l = length l.left
