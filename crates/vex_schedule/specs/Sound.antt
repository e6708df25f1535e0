-- What the setups and the times that are read keep.
use Rattle.std.specs.Prelude.{ℕ, ◌≢◌, ◌<◌, pos, ◌≤ℤ◌, List, map, All, AllPairs}
use Rattle.scan_list.specs.Sound.{IsChan}
use Rattle.scan_list.specs.declared.scan.Chan.{Chan}
use Rattle.vex_schedule.specs.declared.stay.Stay.{Stay}

-- a setup's sample rate is not 0, and its channels differ in their names
pub record IsSetup (rate : ℕ) (chans : List Chan) : Type 0 where
  pub some : 0 < rate
  pub each : All IsChan chans
  pub distinct : AllPairs (λ x y. x ≢ y) (map (λ chan. chan.id) chans)

-- a station starts at the scan's start or later, and does not stop before it starts
pub record IsStay (stay : Stay) : Type 0 where
  pub start : pos 0 ≤ℤ stay.from_us
  pub order : stay.from_us ≤ℤ stay.to_us
