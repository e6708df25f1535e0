use Rattle.std.proofs.Common.{◌-◌}
use Rattle.piece_plan.specs.Epochs.{epochs_of}
use Rattle.plan_places.specs.Places.{place_at}
use Rattle.plan_places.proofs.Searched.{IsSearched}
use Rattle.plan_places.proofs.search.number_up_to.Given as goal

abbrev pub invariant-loop-low : goal.invariant-loop-low
invariant-loop-low l = IsSearched (epochs_of l.plan) (place_at l.at) l.low l.high

abbrev pub decreases-loop-low : goal.decreases-loop-low
decreases-loop-low l = l.high - l.low
