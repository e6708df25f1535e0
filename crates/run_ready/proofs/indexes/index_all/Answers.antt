use Rattle.std.proofs.Common.{◌≡◌, ◌∙◌, ◌≤◌, ◌+◌, ◌^◌, List, ◌∷◌, take, sym, subst, arith}
use Rattle.std.specs.List.{All, AllZip}
use Rattle.std.specs.Vec.Iter.{into_iter_items}
use Rattle.std.proofs.lemmas.List.Elements.{All-tail}
use Rattle.std.proofs.lemmas.Result.{err_from_is_err_and}
use Rattle.dev_traits.proofs.ToldLemmas.{WhereTold-weaker}
use Rattle.frame_index.proofs.ToldLemmas.{WhereTold-always}
use Rattle.frame_index.specs.Recording.{AreOnShelf}
use Rattle.station_stream.specs.declared.recording.Recording.{Recording}
use Rattle.station_stream.specs.Part.{IsNamedBy, IsRecordingOf}
use Rattle.run_ready.specs.declared.recordings.StationFiles.{StationFiles}
use Rattle.run_ready.specs.Recordings.{foreign_answer, first_foreign}
use Rattle.run_ready.specs.Sizes.{IsSizedBy, AreShelved}
use Rattle.run_ready.proofs.ToldLemmas.{WhereTold-moved, WhereTold-then}
use Rattle.run_ready.proofs.FilesLemmas.{AllZip-take}
use Rattle.run_ready.proofs.FirstLemmas.{told-next, told-stop}
use Rattle.run_ready.proofs.RecordingLemmas.{IsFirst-first_foreign, taken-next, AllZip-drop}
use Rattle.run_ready.proofs.indexes.index_all.Goals as goal

pub index_of-requires-clause-few_slots : goal.index_of-requires-clause-few_slots
index_of-requires-clause-few_slots g c =
    let next : into_iter_items c.loop-station.rest ≡ c.unwrap-files.result ∷ into_iter_items c.next.new.self =
    taken-next (into_iter_items c.loop-station.rest) (into_iter_items c.next.new.self) c.next.result c.unwrap-files.result c.next.ensures.items c.unwrap-files.ensures in
    subst (All (λ (z : StationFiles). z.slots ≤ 2 ^ 26)) next c.loop-station.invariant.few_slots 0 c.unwrap-files.result (omega arith)

pub index_of-requires-clause-shelved : goal.index_of-requires-clause-shelved
index_of-requires-clause-shelved g c =
    let told = g.F.Shelf.told in
    let next : into_iter_items c.loop-station.rest ≡ c.unwrap-files.result ∷ into_iter_items c.next.new.self =
    taken-next (into_iter_items c.loop-station.rest) (into_iter_items c.next.new.self) c.next.result c.unwrap-files.result c.next.ensures.items c.unwrap-files.ensures in
    WhereTold-moved (told c.loop-station.shelf) (told c.args.shelf.now) _ (sym c.loop-station.invariant.same)
    (WhereTold-weaker (told c.args.shelf.now) (AreShelved (into_iter_items c.loop-station.rest)) (AreOnShelf c.unwrap-files.result.files)
    (λ files are. subst (λ (zs : List StationFiles). AreShelved zs files) next are 0 c.unwrap-files.result (omega arith))
    c.loop-station.invariant.shelved)

pub loop-station-preserved : goal.loop-station-preserved
loop-station-preserved g c =
    let i = c.loop-station.station-index in
    let told = g.F.Shelf.told in
    let next : into_iter_items c.loop-station.rest ≡ c.unwrap-files.result ∷ into_iter_items c.next.new.self =
    taken-next (into_iter_items c.loop-station.rest) (into_iter_items c.next.new.self) c.next.result c.unwrap-files.result c.next.ensures.items c.unwrap-files.ensures in
    record {
      same = c.index_of.ensures.same ∙ c.loop-station.invariant.same;
      faults = c.in_ok-recording.ensures.counts ∙ c.loop-station.invariant.faults;
      sized =
          AllZip-drop IsSizedBy c.args.stations.now i c.station-item.result (into_iter_items c.loop-station.rest) (into_iter_items c.next.new.self) c.unwrap-files.result
          c.loop-station-test.true next c.loop-station.invariant.sized;
      few_slots =
          All-tail (λ (z : StationFiles). z.slots ≤ 2 ^ 26) c.unwrap-files.result (into_iter_items c.next.new.self)
          (subst (All (λ (z : StationFiles). z.slots ≤ 2 ^ 26)) next c.loop-station.invariant.few_slots);
      shelved =
          WhereTold-weaker (told c.args.shelf.now) (AreShelved (into_iter_items c.loop-station.rest)) (AreShelved (into_iter_items c.next.new.self))
          (λ files are. All-tail (λ (z : StationFiles). AreOnShelf z.files files) c.unwrap-files.result (into_iter_items c.next.new.self)
          (subst (λ (zs : List StationFiles). AreShelved zs files) next are))
          c.loop-station.invariant.shelved;
      named =
          subst (λ (rs : List Recording). AllZip IsNamedBy (take (i + 1) c.args.stations.now) rs) (sym c.in_ok-add.ensures)
          (AllZip-take IsNamedBy c.args.stations.now c.loop-station.list.items i c.station-item.result c.in_ok-recording.recording
          c.loop-station-test.true c.station-item.is c.loop-station.invariant.named c.in_ok-recording.ensures.named);
      recorded =
          WhereTold-then (told c.args.shelf.now) (told c.loop-station.shelf) _ _ _
          (λ files are is. subst (λ (rs : List Recording). AllZip (IsRecordingOf files) (take (i + 1) c.args.stations.now) rs) (sym c.in_ok-add.ensures)
          (AllZip-take (IsRecordingOf files) c.args.stations.now c.loop-station.list.items i c.station-item.result c.in_ok-recording.recording
          c.loop-station-test.true c.station-item.is are is))
          c.loop-station.invariant.same c.loop-station.invariant.recorded c.in_ok-recording.ensures.recorded;
      first =
          told-next foreign_answer first_foreign IsFirst-first_foreign c.args.stations.now i c.station-item.result c.loop-station-test.true c.station-item.is
          c.loop-station.invariant.same c.loop-station.invariant.first c.in_ok-recording.ensures.agrees;
    }

pub returns-in_err-recording-clause-same : goal.returns-in_err-recording-clause-same
returns-in_err-recording-clause-same g c = c.index_of.ensures.same ∙ c.loop-station.invariant.same

pub returns-in_err-recording-clause-named : goal.returns-in_err-recording-clause-named
returns-in_err-recording-clause-named g c =
    let p = err_from_is_err_and c.from_residual.result c.from_residual.ensures.1 in
    rw p.1 tt

pub returns-in_err-recording-clause-recorded : goal.returns-in_err-recording-clause-recorded
returns-in_err-recording-clause-recorded g c =
    let p = err_from_is_err_and c.from_residual.result c.from_residual.ensures.1 in
    rw p.1 tt

pub returns-in_err-recording-clause-agrees : goal.returns-in_err-recording-clause-agrees
returns-in_err-recording-clause-agrees g c =
    let p = err_from_is_err_and c.from_residual.result c.from_residual.ensures.1 in
    rw p.1 tt

pub returns-in_err-recording-clause-due : goal.returns-in_err-recording-clause-due
returns-in_err-recording-clause-due g c =
    let p = err_from_is_err_and c.from_residual.result c.from_residual.ensures.1 in
    rw (p.1, p.2)
    (told-stop foreign_answer first_foreign IsFirst-first_foreign c.args.stations.now c.loop-station.station-index c.station-item.result
    c.loop-station-test.true c.station-item.is c.loop-station.invariant.same c.loop-station.invariant.first c.in_err-recording.field-0.0 c.in_err-recording.ensures.due)

pub returns-in_err-recording-clause-stage : goal.returns-in_err-recording-clause-stage
returns-in_err-recording-clause-stage g c =
    let p = err_from_is_err_and c.from_residual.result c.from_residual.ensures.1 in
    rw (p.1, p.2) c.in_err-recording.ensures.stage

pub returns-in_err-recording-clause-counts : goal.returns-in_err-recording-clause-counts
returns-in_err-recording-clause-counts g c =
    let p = err_from_is_err_and c.from_residual.result c.from_residual.ensures.1 in
    rw (p.1, p.2) (rw c.loop-station.invariant.faults at c.in_err-recording.ensures.counts)

pub returns-in_err-add-clause-named : goal.returns-in_err-add-clause-named
returns-in_err-add-clause-named g c =
    let p = err_from_is_err_and c.from_residual-in_err-add.result c.from_residual-in_err-add.ensures.1 in
    rw p.1 tt

pub returns-in_err-add-clause-recorded : goal.returns-in_err-add-clause-recorded
returns-in_err-add-clause-recorded g c =
    let p = err_from_is_err_and c.from_residual-in_err-add.result c.from_residual-in_err-add.ensures.1 in
    rw p.1 tt

pub returns-in_err-add-clause-agrees : goal.returns-in_err-add-clause-agrees
returns-in_err-add-clause-agrees g c =
    let p = err_from_is_err_and c.from_residual-in_err-add.result c.from_residual-in_err-add.ensures.1 in
    rw p.1 tt

pub returns-in_err-add-clause-due : goal.returns-in_err-add-clause-due
returns-in_err-add-clause-due g c =
    let p = err_from_is_err_and c.from_residual-in_err-add.result c.from_residual-in_err-add.ensures.1 in
    rw (p.1, p.2) (WhereTold-always (g.F.Shelf.told c.args.shelf.now) _ (λ files. tt))

pub returns-in_err-add-clause-stage : goal.returns-in_err-add-clause-stage
returns-in_err-add-clause-stage g c =
    let p = err_from_is_err_and c.from_residual-in_err-add.result c.from_residual-in_err-add.ensures.1 in
    rw (p.1, p.2) tt

pub returns-in_err-add-clause-counts : goal.returns-in_err-add-clause-counts
returns-in_err-add-clause-counts g c =
    let p = err_from_is_err_and c.from_residual-in_err-add.result c.from_residual-in_err-add.ensures.1 in
    rw (p.1, p.2) (c.in_ok-recording.ensures.counts ∙ c.loop-station.invariant.faults)
