use Rattle.std.proofs.Common.{◌≡◌, ◌+◌, ◌-◌, ◌*◌, ◌/◌, ◌%◌, ◌<◌, ◌≤◌, ℕ, List, length, get_or, ap, sym, subst, ◌∙◌, arith}
use Rattle.std.proofs.Math.Nat.{mul-le-mul_right}
use Rattle.corr_model.specs.declared.cell.Cell.{Cell}
use Rattle.corr_model.specs.Lags.{lag_of}
use Rattle.corr_model.proofs.CellLemmas.{IsGrown, IsGrown-wider}
use Rattle.delay_track.specs.Track.{model_of}
use Rattle.lag_kernel.specs.Planes.{plane_pair, plane_samples}
use Rattle.pulsar_bins.specs.Bin.{bin_at}
use Rattle.pulsar_bins.specs.Runs.{BinRunsFields}
use Rattle.epoch_run.specs.Sums.{pair_cells}
use Rattle.epoch_run.proofs.Within.{IsGrown-pair_cells}
use Rattle.epoch_run.proofs.BinnedCells.{IsGrown-bin_cell_in, are-bin_cells, bin_cell_in-none, cell_number, run-added}
use Rattle.epoch_run.proofs.BinRuns.{run-below, run-is, run-same}
use Rattle.epoch_run.proofs.phase.bin_lags.Goals as goal

pub loop-run-init : goal.loop-run-init
loop-run-init c =
    let x = c.args in
    let count = x.phase.now.count in
    let bins = bin_at count (model_of x.phase.now.track) in
    let z = plane_samples x.a.now x.b.now in
    let samples = x.phase.now.track.samples in
    let lags = length x.stretch.now in
    let is = c.bin_runs-runs.ensures in
    let at : c.bin_runs-runs.result.at ≡ x.from = ap (λ (s : BinRunsFields). s.at) is in
    record {
      model = ap (λ (s : BinRunsFields). s.model) is;
      count = ap (λ (s : BinRunsFields). s.count) is;
      to = ap (λ (s : BinRunsFields). s.to) is;
      begun = omega (arith, at);
      within = omega (arith, at, c.requires.order);
      cells = λ k d h.
          c.clear.ensures k d (omega (arith, h, c.requires.cells))
          ∙ sym (bin_cell_in-none bins (k / lags) z plane_pair samples (lag_of lags (k % lags)) x.from)
          ∙ ap (λ (n : ℕ). cell_number bins count z samples lags x.from n plane_pair k) (sym at);
    }

-- the cells of the run
sums : (stretch : List Cell) (lags : ℕ) (cells : ℕ → List Cell) → length stretch ≡ lags → (new : List Cell) → new ≡ cells (length stretch) → new ≡ cells lags
sums stretch lags cells long new is = is ∙ ap cells long

pub add_cells-requires-clause-room : goal.add_cells-requires-clause-room
add_cells-requires-clause-room c =
    let x = c.args in
    let run = c.in-Some.run' in
    let inv = c.loop-run.invariant in
    let is = run-is (model_of x.phase.now.track) x.phase.now.count x.to c.loop-run.runs run inv.model inv.count inv.to c.in-Some.ensures.steps.0 in
    let below : run.bin < x.phase.now.count = run-below (model_of x.phase.now.track) x.phase.now.count c.loop-run.runs.at x.to run is (omega (arith, c.requires.bins.0)) in
    let more : (run.bin + 1) * length x.stretch.now ≤ x.phase.now.count * length x.stretch.now = mul-le-mul_right (length x.stretch.now) (omega (arith, below)) in
    omega (arith, more, c.plane_lags.auto.out, c.loop-run.auto.stretch, c.loop-run.auto.cells, c.clear.auto.cells, c.requires.cells)

pub add_cells-requires-clause-more : goal.add_cells-requires-clause-more
add_cells-requires-clause-more c = λ k d h.
    let x = c.args in
    let z = plane_samples x.a.now x.b.now in
    let samples = x.phase.now.track.samples in
    let run = c.in-Some.run' in
    let inv = c.loop-run.invariant in
    let is = run-is (model_of x.phase.now.track) x.phase.now.count x.to c.loop-run.runs run inv.model inv.count inv.to c.in-Some.ensures.steps.0 in
    let cells : c.plane_lags.new.out ≡ pair_cells z samples (length x.stretch.now) run.from run.to plane_pair =
    sums c.loop-run.stretch _ (λ n. pair_cells z samples n run.from run.to plane_pair) c.loop-run.auto.stretch _ c.plane_lags.ensures in
    IsGrown-wider (get_or c.plane_lags.new.out k d) (run.to - run.from) 4194304
    (IsGrown-pair_cells z plane_pair samples (length x.stretch.now) run.from run.to _ c.requires.levelled cells k d h)
    (omega (arith, c.requires.short, is.begins, inv.begun, is.stretch.within))

pub add_cells-requires-clause-cells : goal.add_cells-requires-clause-cells
add_cells-requires-clause-cells c = λ k d h.
    let x = c.args in
    let z = plane_samples x.a.now x.b.now in
    let samples = x.phase.now.track.samples in
    let lags = length x.stretch.now in
    let count = x.phase.now.count in
    let inv = c.loop-run.invariant in
    let at = c.loop-run.runs.at in
    let inside : k < count * lags = omega (arith, h, c.loop-run.auto.cells, c.clear.auto.cells, c.requires.cells) in
    subst (λ (cell : Cell). IsGrown cell 4194304) (sym (inv.cells k d inside))
    (IsGrown-wider (cell_number (bin_at count (model_of x.phase.now.track)) count z samples lags x.from at plane_pair k) (at - x.from) 4194304
    (IsGrown-bin_cell_in (bin_at count (model_of x.phase.now.track)) (k / lags) z plane_pair samples (lag_of lags (k % lags)) c.requires.levelled x.from at)
    (omega (arith, c.requires.short, inv.within)))

pub loop-run-preserved : goal.loop-run-preserved
loop-run-preserved c =
    let x = c.args in
    let z = plane_samples x.a.now x.b.now in
    let samples = x.phase.now.track.samples in
    let lags = length x.stretch.now in
    let count = x.phase.now.count in
    let model = model_of x.phase.now.track in
    let runs = c.loop-run.runs in
    let run = c.in-Some.run' in
    let inv = c.loop-run.invariant in
    let is = run-is model count x.to runs run inv.model inv.count inv.to c.in-Some.ensures.steps.0 in
    let next = c.in-Some.ensures.steps.1 in
    let at : c.next.new.self.at ≡ run.to = ap (λ (s : BinRunsFields). s.at) next in
    let to : c.next.new.self.to ≡ runs.to = ap (λ (s : BinRunsFields). s.to) next in
    let old = c.loop-run.cells in
    let new = c.add_cells.new.cells in
    let stretch = c.plane_lags.new.out in
    let long : length stretch ≡ lags = c.plane_lags.auto.out ∙ c.loop-run.auto.stretch in
    let cells : stretch ≡ pair_cells z samples lags run.from run.to plane_pair =
    sums c.loop-run.stretch lags (λ n. pair_cells z samples n run.from run.to plane_pair) c.loop-run.auto.stretch stretch c.plane_lags.ensures in
    let bins = bin_at count model in
    let number : ℕ → ℕ → Cell = λ n k. cell_number bins count z samples lags x.from n plane_pair k in
    let before : (i : ℕ) (d : Cell) → i < run.bin * lags → get_or new i d ≡ get_or old i d = c.add_cells.ensures.before in
    record {
      model = ap (λ (s : BinRunsFields). s.model) next ∙ inv.model;
      count = ap (λ (s : BinRunsFields). s.count) next ∙ inv.count;
      to = to ∙ inv.to;
      begun = omega (arith, at, inv.begun, is.stretch.after);
      within = omega (arith, at, is.stretch.within);
      cells = λ k d h.
          run-added bins z samples lags plane_pair x.from run.from run.to run.bin old new stretch c.requires.lags.0
          (omega (arith, inv.begun, is.begins)) (omega (arith, is.begins, is.stretch.after))
          (run-same model count runs.at x.to run is) cells k d
          (λ i low. before i d low)
          (λ i low. c.add_cells.ensures.here i d (omega (arith, low, long)))
          (λ i high. c.add_cells.ensures.behind i d (omega (arith, high, long)))
          (inv.cells k d h ∙ ap (λ n. number n k) (sym is.begins))
          ∙ ap (λ n. number n k) (sym at);
    }

pub returns : goal.returns
returns c =
    let x = c.args in
    let z = plane_samples x.a.now x.b.now in
    let samples = x.phase.now.track.samples in
    let lags = length x.stretch.now in
    let count = x.phase.now.count in
    let bins = bin_at count (model_of x.phase.now.track) in
    let inv = c.loop-run.invariant in
    let end : c.loop-run.runs.at ≡ x.to = c.in_default.ensures.steps.0 ∙ inv.to in
    are-bin_cells bins count z samples lags x.from x.to plane_pair c.loop-run.cells c.requires.lags.0
    (c.loop-run.auto.cells ∙ c.clear.auto.cells ∙ c.requires.cells)
    (λ k d h. inv.cells k d h ∙ ap (λ n. cell_number bins count z samples lags x.from n plane_pair k) end)
