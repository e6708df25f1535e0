use Rattle.std.proofs.Common.{◌≡◌, ◌<◌, ℕ, Some, length, get_or}
use Rattle.std.specs.List.{All, slice_get}
use Rattle.job_plan.specs.declared.plan.StayPlan.{StayPlan}
use Rattle.station_stream.specs.declared.stay_frames.StayFrames.{StayFrames}
use Rattle.station_stream.specs.StayFrames.{HoldStay}
use Rattle.run_sums.specs.Frames.{IsOfSamples}
use Rattle.run_sums.proofs.parts.read_stations.Given as goal

abbrev pub invariant-loop-place : goal.invariant-loop-place
invariant-loop-place g l = record {
  same : g.F.Shelf.told l.shelf ≡ g.F.Shelf.told l.initial.shelf;
  faults : g.F.Shelf.faults l.shelf ≡ g.F.Shelf.faults l.initial.shelf;
  count : length l.stations.items ≡ l.place;
  window : All (IsOfSamples l.from l.to) l.stations.items;
  held : (k : ℕ) (d : StayFrames) → k < l.place → (stay : StayPlan) → slice_get l.scan.stays k ≡ Some stay
      → HoldStay (g.F.Shelf.told l.initial.shelf) l.plan l.scan stay l.recordings (get_or l.stations.items k d);
}
