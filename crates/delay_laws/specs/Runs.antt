-- The list of all runs of one whole delay.
use Rattle.std.specs.Prelude.{◌≡◌, ℕ, ℤ, List, map}
use Rattle.corr_model.specs.Delay.{DelayModel, whole_at}
use Rattle.delay_track.specs.declared.runs.Run.{Run}
use Rattle.delay_laws.specs.Stretches.{Stretch, AreStretches}

-- a run as a stretch of its whole delay
abbrev pub stretch_of_run : Run → Stretch ℤ
stretch_of_run run = record { from = run.from; to = run.to; value = run.whole }

-- the runs of a range: the stretches on which the whole delay is the same
abbrev pub AreRuns : DelayModel → ℕ → ℕ → List Run → Type 0
AreRuns m from to runs = AreStretches (whole_at m) from to (map stretch_of_run runs)

-- a range has a list of runs, and no second one
pub record HasOneListOfRuns (m : DelayModel) (from to : ℕ) : Type 0 where
  pub runs : List Run
  pub are : AreRuns m from to runs
  pub only : (other : List Run) → AreRuns m from to other → runs ≡ other
