-- No count of slots of a kind is above the number of slots.
use Rattle.std.specs.Prelude.{◌≤◌}
use Rattle.frame_index.specs.declared.counts.Counts.{Counts}

pub record IsOrderly (counts : Counts) : Type 0 where
  pub doubled : counts.doubled ≤ counts.slots
  pub invalid : counts.invalid ≤ counts.slots
  pub foreign : counts.foreign ≤ counts.slots
  pub late : counts.late ≤ counts.slots
