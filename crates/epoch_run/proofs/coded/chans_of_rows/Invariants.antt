use Rattle.std.proofs.Common.{◌≡◌, ◌+◌, ◌<◌, ◌≤◌, ℕ, ℤ, Vec, Global, length, get_or}
use Rattle.epoch_run.specs.Planes.{chans_value}
use Rattle.epoch_run.specs.Rows.{row_value}
use Rattle.epoch_run.proofs.coded.chans_of_rows.Given as goal

abbrev pub invariant-loop-chan : goal.invariant-loop-chan
invariant-loop-chan l = record {
  count : length l.chans.items ≡ l.chan;
  values : (k : ℕ) (n : ℤ) → k < l.chan → chans_value l.chans.items k n ≡ row_value l.from l.initial.rows (l.first + k) n;
  left : (k : ℕ) (d : Vec ℕ Global) → l.first + l.chan ≤ k → get_or l.rows k d ≡ get_or l.initial.rows k d;
}
