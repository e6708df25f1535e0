-- The runs of one whole delay, one after another.
use Rattle.std.specs.Prelude.{◌≡◌, ℕ, Option, Some, None}
use Rattle.corr_model.specs.Delay.{DelayModel, whole_at}
use Rattle.delay_line.specs.Stretch.{IsStretch}
use Rattle.delay_track.specs.declared.runs.Run.{Run}

-- the delays of the samples that are left, those from `at` up to, not including, `to`
pub record RunsFields : Type 0 where
  pub model : DelayModel
  pub at : ℕ
  pub to : ℕ

-- the longest run of one whole delay from `from` on and before `to`
pub record IsRun (m : DelayModel) (from to : ℕ) (run : Run) : Type 0 where
  pub begins : run.from ≡ from
  pub whole : run.whole ≡ whole_at m from
  pub stretch : IsStretch (whole_at m) from to run.to

-- What comes next: the run of the first sample that is left, and behind it the samples behind that run; nothing where no
-- sample is left.
abbrev pub IsNextRun : RunsFields → Option Run → RunsFields → Type 0
IsNextRun old None new = (old.at ≡ old.to) × (new ≡ old)
IsNextRun old (Some run) new =
    IsRun old.model old.at old.to run × (new ≡ record { model = old.model; at = run.to; to = old.to })
