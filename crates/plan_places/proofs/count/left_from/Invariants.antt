use Rattle.std.proofs.Common.{◌-◌, length}
use Rattle.piece_plan.specs.Epochs.{epochs_of}
use Rattle.plan_places.proofs.CountedLemmas.{IsCounted}
use Rattle.plan_places.proofs.count.left_from.Given as goal

abbrev pub invariant-loop-i : goal.invariant-loop-i
invariant-loop-i l = IsCounted l.plan l.epoch l.first l.i l.count

abbrev pub decreases-loop-i : goal.decreases-loop-i
decreases-loop-i l = length (epochs_of l.plan) - l.i
