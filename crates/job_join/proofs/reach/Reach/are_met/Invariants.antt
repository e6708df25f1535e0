use Rattle.std.proofs.Common.{◌≡◌, ℕ, ◌≤◌, ◌<◌, true}
use Rattle.job_join.specs.Reach.{reach_model}
use Rattle.job_join.specs.Needs.{is_met}
use Rattle.job_join.proofs.reach.Reach.are_met.Given as goal

abbrev pub invariant-loop-end : goal.invariant-loop-end
invariant-loop-end l = record {
  within : l.end ≤ l.samples;
  behind : (i : ℕ) → l.end ≤ i → i < l.samples → is_met l.need (reach_model l.self) i ≡ true;
}

abbrev pub decreases-loop-end : goal.decreases-loop-end
decreases-loop-end l = l.end
