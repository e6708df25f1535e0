-- The bins of a pulse: how many a turn has, and the phase's entries, each in force from a second on.
use Rattle.std.specs.Prelude.{ℕ, ◌≤◌, List, length, IfSome}
use Rattle.std.specs.List.{All}
use Rattle.num_time.specs.Times.{IsSecond}
use Rattle.delay_poly.specs.declared.entry.PolyEntry.{PolyEntry}
use Rattle.pulsar_bins.specs.declared.said.Said.{Said}

pub record BinsFields : Type 0 where
  pub count : ℕ
  pub phases : List PolyEntry

-- 2 to 64 bins and an entry or more, from seconds of the calendar
pub record AreBins (bins : BinsFields) : Type 0 where
  pub some : 2 ≤ bins.count
  pub few : bins.count ≤ 64
  pub phases : 1 ≤ length bins.phases
  pub seconds : All (λ (e : PolyEntry). IsSecond e.second) bins.phases

-- what lines say is in these ranges as far as it is there
pub record IsSaid (said : Said) : Type 0 where
  pub count : IfSome said.count (λ n. (2 ≤ n) × (n ≤ 64))
  pub seconds : All (λ (e : PolyEntry). IsSecond e.second) said.phases
