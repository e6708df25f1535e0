use Rattle.std.proofs.Common.{◌∙◌, ◌++◌, ℕ, List, map, ap, ap₂}
use Rattle.frame_index.specs.declared.recording.FileRef.{FileRef}
use Rattle.run_ready.specs.declared.recordings.StationFiles.{StationFiles}
use Rattle.run_ready.proofs.IdentityLemmas.{sizes_in-more}
use Rattle.run_ready.proofs.identity.sizes_in.Goals as goal

pub loop-station-preserved : goal.loop-station-preserved
loop-station-preserved c =
    c.in_ok-push_sizes.ensures
    ∙ ap₂ (λ (a b : List ℕ). a ++ b) c.loop-station.invariant
    (ap (map (λ (f : FileRef). f.size)) (c.items.ensures ∙ ap (λ (z : StationFiles). z.files) c.station-item.is))
    ∙ sizes_in-more c.args.files.now c.loop-station.station-index c.station-item.result c.loop-station-test.true
