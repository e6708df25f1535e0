use Rattle.std.proofs.Common.{◌≡◌, ℕ, ◌*◌, ◌<◌, ◌≤◌, length, ap, arith}
use Rattle.std.proofs.Math.Nat.{mul-le-mul_left}
use Rattle.run_bins.proofs.limit.width_of.Goals as goal

-- the cells of an integration without bins are few, and so are the bins
product-fits : (products baselines bins lags : ℕ) → baselines * products * lags ≤ 4194304 → bins ≤ 64
    → products * baselines * bins * lags < 18446744073709551616
product-fits products baselines bins lags cells few =
    let most : baselines * products * lags * bins ≤ baselines * products * lags * 64 = mul-le-mul_left (baselines * products * lags) few in
    grind (arith, most, cells)

width-fits : (products baselines bins lags p b : ℕ) → p ≡ products → b ≡ baselines → baselines * products * lags ≤ 4194304 → bins ≤ 64
    → p * b * bins * lags < 18446744073709551616
width-fits products baselines bins lags p b same alike cells few = rw (same, alike) (product-fits products baselines bins lags cells few)

pub overflow_mul-result-2 : goal.overflow_mul-result-2
overflow_mul-result-2 c =
    omega (
      arith,
      width-fits (length c.args.plan.now.products) (length c.args.scan.now.baselines) c.bins.inside.count c.args.plan.now.lags
          (length c.items.result.now) (length c.items-2.result.now) (ap length c.items.ensures) (ap length c.items-2.ensures) c.requires.scan.cells
          c.bins.invariant.0.few,
    )
