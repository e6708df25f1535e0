use Rattle.std.proofs.Common.{◌∙◌, ◌+◌, List, take, sym, subst}
use Rattle.std.specs.List.{AllZip}
use Rattle.std.proofs.lemmas.Result.{err_from_is_err_and}
use Rattle.frame_index.specs.Recording.{AreOnShelf}
use Rattle.job_plan.specs.declared.plan.StationPlan.{StationPlan}
use Rattle.run_ready.specs.declared.recordings.StationFiles.{StationFiles}
use Rattle.run_ready.specs.Sizes.{no_file_of, no_file_for, IsSizedBy}
use Rattle.run_ready.proofs.FilesLemmas.{told-more, AllZip-take}
use Rattle.run_ready.proofs.FirstLemmas.{told-next, told-stop, IsFirst-no_file_for}
use Rattle.run_ready.proofs.recordings.all_files.Goals as goal

pub returns-in_err-files-clause-due : goal.returns-in_err-files-clause-due
returns-in_err-files-clause-due g c =
    let p = err_from_is_err_and c.from_residual.result c.from_residual.ensures.1 in
    rw (p.1, p.2)
    (told-stop (λ files (s : StationPlan). no_file_of files s.files) no_file_for IsFirst-no_file_for c.args.stations.now c.loop-station.station-index c.station-item.result
    c.loop-station-test.true c.station-item.is c.loop-station.invariant.same c.loop-station.invariant.first c.in_err-files.field-0.0 c.in_err-files.ensures.due)

pub loop-station-preserved : goal.loop-station-preserved
loop-station-preserved g c = record {
  same = c.station_files.ensures.same ∙ c.loop-station.invariant.same;
  faults = c.in_ok-files.ensures.counts ∙ c.loop-station.invariant.faults;
  sized =
      subst (λ (zs : List StationFiles). AllZip IsSizedBy (take (c.loop-station.station-index + 1) c.args.stations.now) zs) (sym c.in_ok-add.ensures)
      (AllZip-take IsSizedBy c.args.stations.now c.loop-station.list.items c.loop-station.station-index c.station-item.result c.in_ok-files.files
      c.loop-station-test.true c.station-item.is c.loop-station.invariant.sized c.in_ok-files.ensures.sized);
  shelved =
      told-more (λ files (z : StationFiles). AreOnShelf z.files files) c.loop-station.list.items c.in_ok-files.files c.in_ok-add.ensures
      c.loop-station.invariant.same c.loop-station.invariant.shelved c.in_ok-files.ensures.shelved;
  first =
      told-next (λ files (s : StationPlan). no_file_of files s.files) no_file_for IsFirst-no_file_for c.args.stations.now c.loop-station.station-index c.station-item.result
      c.loop-station-test.true c.station-item.is c.loop-station.invariant.same c.loop-station.invariant.first c.in_ok-files.ensures.there;
}
