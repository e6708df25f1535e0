-- The runs of one bin, one after another.
use Rattle.std.specs.Prelude.{◌≡◌, ℕ, Option, Some, None}
use Rattle.corr_model.specs.Delay.{DelayModel}
use Rattle.delay_line.specs.Stretch.{IsStretch}
use Rattle.pulsar_bins.specs.declared.runs.BinRun.{BinRun}
use Rattle.pulsar_bins.specs.Bin.{bin_at}

-- the bins of the samples that are left, those from `at` up to, not including, `to`, where a turn has so many
pub record BinRunsFields : Type 0 where
  pub model : DelayModel
  pub count : ℕ
  pub at : ℕ
  pub to : ℕ

-- the longest run of one bin from `from` on and before `to`
pub record IsBinRun (m : DelayModel) (count from to : ℕ) (run : BinRun) : Type 0 where
  pub begins : run.from ≡ from
  pub bin : run.bin ≡ bin_at count m from
  pub stretch : IsStretch (bin_at count m) from to run.to

-- What comes next: the run of the first sample that is left, and behind it the samples behind that run; nothing where no
-- sample is left.
abbrev pub IsNextBinRun : BinRunsFields → Option BinRun → BinRunsFields → Type 0
IsNextBinRun old None new = (old.at ≡ old.to) × (new ≡ old)
IsNextBinRun old (Some run) new =
    IsBinRun old.model old.count old.at old.to run
    × (new ≡ record { model = old.model; count = old.count; at = run.to; to = old.to })
