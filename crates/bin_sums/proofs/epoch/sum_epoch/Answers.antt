use Rattle.std.proofs.Common.{◌≡◌, ◌∙◌, ℕ, ◌*◌, List, length, ap, arith}
use Rattle.corr_model.specs.declared.cell.Pair.{Pair}
use Rattle.delay_track.specs.Track.{model_of}
use Rattle.job_plan.specs.declared.plan.Plan.{Plan}
use Rattle.pulsar_bins.specs.Bin.{bin_at}
use Rattle.pulsar_bins.specs.Bins.{BinsFields}
use Rattle.pulsar_bins.specs.Scans.{phase_in_scan}
use Rattle.epoch_run.specs.Planes.{planed}
use Rattle.epoch_run.specs.Binned.{bin_cells_in_epoch}
use Rattle.run_sums.proofs.SumsLemmas.{length-pairs_in_epoch}
use Rattle.bin_sums.specs.Binned.{bin_width}
use Rattle.bin_sums.proofs.ReachedLemmas.{bin_width-epoch, length-bin_cells_in_epoch, sums-reached}
use Rattle.bin_sums.proofs.epoch.sum_epoch.Goals as goal

pub sum_bins-requires-clause-epoch : goal.sum_bins-requires-clause-epoch
sum_bins-requires-clause-epoch g c κs within = record {
  epoch = c.requires.epoch.of_scan.of_plan;
  inside = c.requires.epoch.of_scan.inside;
  scan = c.requires.epoch.ranges.samples;
  groups = ap length c.deref.ensures.value ∙ ap length c.requires.pairs ∙ length-pairs_in_epoch c.args.ready.now.plan c.args.scan.now c.args.e.now c.requires.epoch.of_scan;
  some = c.requires.piece.0;
  most = c.requires.piece.1;
}

pub sum_bins-requires-clause-room : goal.sum_bins-requires-clause-room
sum_bins-requires-clause-room g c κs within =
    let e = c.args.e.now in
    let count : c.bins.inside.count ≡ c.args.bins.now.count = ap (λ (b : BinsFields). b.count) c.bins.view_is in
    let width : e.products * e.baselines * e.lags * c.bins.inside.count ≡ bin_width c.args.ready.now.plan c.args.bins.now c.args.scan.now =
    ap (λ (n : ℕ). e.products * e.baselines * e.lags * n) count ∙ bin_width-epoch c.args.ready.now.plan c.args.bins.now c.args.scan.now e c.requires.epoch.of_scan in
    omega (arith, c.requires.few, width)

pub returns-clause-sums : goal.returns-clause-sums
returns-clause-sums g c told holds =
    let z = planed c.args.values.now.planes in
    let samples = c.args.scan.now.samples in
    let phase = model_of c.phase_in-track.result in
    let count : c.bins.inside.count ≡ c.args.bins.now.count = ap (λ (b : BinsFields). b.count) c.bins.view_is in
    sums-reached told c.args.ready.now.plan c.args.bins.now c.args.scan.now c.args.e.now c.args.values.now phase c.in_ok-sums.sums.cells c.requires.epoch.of_scan
    (c.phase_in-track.ensures.model ∙ ap (λ (plan : Plan). phase_in_scan plan c.args.bins.now.phases c.args.scan.now) c.plan-plan.ensures.same)
    (c.in_ok-sums.ensures.cells
    ∙ ap (λ (n : ℕ). bin_cells_in_epoch z c.deref.result.now samples c.args.e.now (bin_at n phase) n) count
    ∙ ap (λ (pairs : List Pair). bin_cells_in_epoch z pairs samples c.args.e.now (bin_at c.args.bins.now.count phase) c.args.bins.now.count) c.deref.ensures.value)
    holds

pub returns-clause-count : goal.returns-clause-count
returns-clause-count g c =
    let z = planed c.args.values.now.planes in
    let phase = model_of c.phase_in-track.result in
    let count : c.bins.inside.count ≡ c.args.bins.now.count = ap (λ (b : BinsFields). b.count) c.bins.view_is in
    ap length (c.in_ok-sums.ensures.cells
    ∙ ap (λ (n : ℕ). bin_cells_in_epoch z c.deref.result.now c.args.scan.now.samples c.args.e.now (bin_at n phase) n) count)
    ∙ length-bin_cells_in_epoch c.args.ready.now.plan c.args.bins.now c.args.scan.now c.args.e.now z c.deref.result.now (bin_at c.args.bins.now.count phase)
    c.requires.epoch.of_scan (c.deref.ensures.value ∙ c.requires.pairs)
