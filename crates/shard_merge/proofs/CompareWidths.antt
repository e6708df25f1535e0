-- How many cells the integrations of a plan have, and how many integrations there are.
use Rattle.std.specs.Option.{option_map_or}
use Rattle.std.specs.List.{All}
use Rattle.std.proofs.Common.{◌≡◌, sym, ap, subst, refl, ℕ, ◌+◌, ◌*◌, ◌≤◌, ◌<◌, List, length, take, get_or, arith}
use Rattle.std.proofs.Math.Nat.{mul-le-mul_left}
use Rattle.std.proofs.lemmas.List.{take_all}
use Rattle.std.proofs.lemmas.List.Elements.{All-weaker, All-more}
use Rattle.std.proofs.lemmas.Option.{slice_get_read}
use Rattle.piece_plan.specs.declared.job.ScanSize.{ScanSize}
use Rattle.piece_plan.specs.Epochs.{JobSizes, IsJob, IsScan}
use Rattle.shard_merge.specs.Covers.{width_at}

pub scan-width : (job : JobSizes) (number : ℕ) (size : ScanSize) → number < length job.scans → size ≡ get_or job.scans number size
    → width_at job number ≡ size.products * size.baselines * job.lags
scan-width job number size within is =
    ap (λ o. option_map_or (λ (s : ScanSize). s.products * s.baselines * job.lags) o 0)
    (slice_get_read job.scans (length job.scans) number size refl within is)

pub scan-size : (job : JobSizes) (number : ℕ) (size : ScanSize) → IsJob job → number < length job.scans → size ≡ get_or job.scans number size
    → IsScan job.integration job.lags size
scan-size job number size job-is within is = subst (IsScan job.integration job.lags) (sym is) (job-is.scans number size within)

-- an integration has no more cells than the widest
abbrev pub IsRoom : ℕ → ℕ → ScanSize → Type 0
IsRoom lags room size = size.products * size.baselines * lags ≤ room

pub room-more : (scans : List ScanSize) (lags most wider k : ℕ) (size : ScanSize) → k < length scans → size ≡ get_or scans k size
    → most ≤ wider → size.products * size.baselines * lags ≤ wider → All (IsRoom lags most) (take k scans) → All (IsRoom lags wider) (take (k + 1) scans)
room-more scans lags most wider k size within is grows here before =
    All-more (IsRoom lags wider) scans k size within
    (All-weaker (IsRoom lags most) (IsRoom lags wider) (λ s fits. omega (arith, fits, grows)) (take k scans) before)
    (subst (IsRoom lags wider) is here)

pub room-all : (scans : List ScanSize) (lags most k : ℕ) → length scans ≤ k → All (IsRoom lags most) (take k scans) → All (IsRoom lags most) scans
room-all scans lags most k all before = subst (All (IsRoom lags most)) (take_all k scans all) before

pub room-at : (scans : List ScanSize) (lags room k : ℕ) (size : ScanSize) → k < length scans → size ≡ get_or scans k size
    → All (IsRoom lags room) scans → size.products * size.baselines * lags ≤ room
room-at scans lags room k size within is all = subst (IsRoom lags room) (sym is) (all k size within)

-- a scan's first integration has a number below 2^41
pub scan-begins : (integration first samples : ℕ) → 1 ≤ integration → first * integration ≤ samples → first ≤ samples
scan-begins integration first samples one begun =
    let most : first * 1 ≤ first * integration = mul-le-mul_left first one in
    omega (arith, most)
