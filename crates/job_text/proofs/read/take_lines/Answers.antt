use Rattle.std.proofs.Common.{arith}
use Rattle.std.specs.Str.Lines.{lines}
use Rattle.job_lines.proofs.LineLemmas.{line_number-fits}
use Rattle.job_text.proofs.ReadLemmas.{reading-starts, reading-next}
use Rattle.job_text.proofs.read.take_lines.Goals as goal

pub lines-init : goal.lines-init
lines-init c = rw c.of-left.ensures (reading-starts c.args.inline (lines c.args.text.now) c.args.draft.now c.requires.empty)

pub overflow_add-number : goal.overflow_add-number
overflow_add-number c = omega (arith, line_number-fits c.args.text.now c.lines.number c.requires.short c.lines.invariant.count c.in-Some.ensures)

pub lines-preserved : goal.lines-preserved
lines-preserved c =
    reading-next c.lines.invariant c.in-Some.line.now c.next_line.new.self c.take_line.new.draft c.in-Some.ensures c.in_ok-take_line.ensures.taken c.in_ok-take_line.ensures.sound
