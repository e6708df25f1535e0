-- What a shelf of files shows.
use Rattle.std.specs.Prelude.{ℕ}

-- The files by name, and the count of faults.
pub record FileShelfState (S : Type 0) : Type 0 where
  pub files : S
  pub faults : ℕ
