-- What a sink over a writer shows.
use Rattle.std.specs.Prelude.{ℕ}

-- The writer, and the count of faults.
pub record StdSinkState (W : Type 0) : Type 0 where
  pub writer : W
  pub faults : ℕ
