-- The sizes of an epoch's board.
use Rattle.std.proofs.Common.{ℕ, ◌+◌, ◌-◌, ◌*◌, ◌^◌, ◌≤◌, ◌<◌, arith}
use Rattle.std.proofs.Math.Nat.{mul-le-mul_left}
use Rattle.std.proofs.lemmas.Nat.{mul-le}
use Rattle.piece_plan.specs.Pieces.{per_group}
use Rattle.piece_plan.proofs.Quotients.{ceil_le}
use Rattle.epoch_run.specs.Amounts.{WorkFields, cells_of, cut_of}
use Rattle.epoch_run.specs.Levelled.{IsWork}

-- an epoch has few groups
pub groups-few : (w : WorkFields) → IsWork w → w.epoch.products * w.epoch.baselines ≤ 4194304
groups-few w is =
    let lags : w.epoch.products * w.epoch.baselines * 1 ≤ w.epoch.products * w.epoch.baselines * w.epoch.lags =
    mul-le-mul_left (w.epoch.products * w.epoch.baselines) (omega (arith, is.summed.epoch.lags.some)) in
    omega (arith, lags, is.summed.epoch.cells)

-- the pieces and the shares fit
pub room : (w : WorkFields) (shares : ℕ) → IsWork w → shares ≤ 64
    → w.epoch.products * w.epoch.baselines * per_group (cut_of w) + shares < 2 ^ 64
room w shares is few =
    let some : 0 < w.piece = omega (arith, is.summed.some) in
    let fewer : per_group (cut_of w) ≤ 4194304 =
    omega (arith, is.summed.epoch.short, ceil_le (w.epoch.to - w.epoch.from) w.piece some) in
    let all = mul-le (w.epoch.products * w.epoch.baselines) (per_group (cut_of w)) 4194304 4194304 (groups-few w is) fewer in
    omega (arith, all, few)

-- and so do the words
pub words : (w : WorkFields) → IsWork w → w.epoch.products * w.epoch.baselines * (3 * cells_of w) < 2 ^ 32
words w is = omega (arith, is.room)
