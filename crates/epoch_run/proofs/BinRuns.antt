-- A run of one bin.
use Rattle.std.proofs.Common.{◌≡◌, ℕ, ◌≤◌, ◌<◌, sym, subst, ◌∙◌, arith}
use Rattle.corr_model.specs.Delay.{DelayModel, delay_at}
use Rattle.pulsar_bins.specs.declared.runs.BinRun.{BinRun}
use Rattle.pulsar_bins.specs.Bin.{bin_at}
use Rattle.pulsar_bins.specs.Runs.{BinRunsFields, IsBinRun}
use Rattle.pulsar_bins.proofs.BinLemmas.{bin_of-below}

-- the run that comes next among runs of a phase
pub run-is : (m : DelayModel) (count to : ℕ) (runs : BinRunsFields) (run : BinRun) → runs.model ≡ m → runs.count ≡ count → runs.to ≡ to
    → IsBinRun runs.model runs.count runs.at runs.to run → IsBinRun m count runs.at to run
run-is m count to runs run model bins end is =
    subst (λ (n : ℕ). IsBinRun m count runs.at n run) end
    (subst (λ (n : ℕ). IsBinRun m n runs.at runs.to run) bins (subst (λ (d : DelayModel). IsBinRun d runs.count runs.at runs.to run) model is))

module _ (m : DelayModel) (count at to : ℕ) (run : BinRun) (is : IsBinRun m count at to run) where
  -- its samples are of its bin
  pub run-same : (n : ℕ) → run.from ≤ n → n < run.to → bin_at count m n ≡ run.bin
  run-same n begun before = is.stretch.same n (omega (arith, begun, is.begins)) before ∙ sym is.bin

  pub run-below : 1 ≤ count → run.bin < count
  run-below some = subst (λ (b : ℕ). b < count) (sym is.bin) (bin_of-below count (delay_at m at) some)
