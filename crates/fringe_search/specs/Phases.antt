-- What is left of whole turns.
use Rattle.std.specs.Prelude.{ℕ, ◌+◌, ◌*◌, ◌<◌}
use Rattle.fringe_search.specs.declared.phase.Phase.{Phase}

-- a sector of a turn, and less than a sixteenth of it in parts
pub record IsPhase (divide : ℕ) (p : Phase) : Type 0 where
  pub sector : p.sector < 16
  pub part : p.part < divide

-- all of it in parts
abbrev pub rest_of : ℕ → Phase → ℕ
rest_of divide p = p.sector * divide + p.part
