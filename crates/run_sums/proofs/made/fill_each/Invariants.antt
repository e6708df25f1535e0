use Rattle.run_sums.proofs.MadeLemmas.{AreDone}
use Rattle.run_sums.proofs.made.fill_each.Given as goal

abbrev pub invariant-loop-i : goal.invariant-loop-i
invariant-loop-i g l = AreDone l.making l.first l.i l.rows
