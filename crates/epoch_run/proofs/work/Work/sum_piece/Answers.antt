use Rattle.std.proofs.Common.{◌≡◌, ◌-◌, ◌∙◌, ℕ, ℤ, List, All, ap, sym, subst, arith}
use Rattle.corr_model.specs.declared.cell.Cell.{Cell}
use Rattle.corr_model.proofs.CellLemmas.{IsGrown}
use Rattle.bit_planes.specs.Planes.{PlanesFields, plane_value}
use Rattle.lag_kernel.specs.Planes.{plane_samples, plane_pair}
use Rattle.epoch_run.specs.Binned.{bins_of, bin_by}
use Rattle.epoch_run.specs.Amounts.{WorkFields, cells_over}
use Rattle.epoch_run.specs.Planes.{planed}
use Rattle.epoch_run.specs.Levelled.{IsWork}
use Rattle.epoch_run.proofs.BinnedCells.{bin_cells-values}
use Rattle.epoch_run.proofs.WorkCells.{AllLevelled-planes, All-cells_over, cells-few}
use Rattle.epoch_run.proofs.work.Work.sum_piece.Goals as goal

-- the planes of a channel hold its values
channel-values : (w : WorkFields) (stations : List (List PlanesFields)) (planes : PlanesFields) (station chan : ℕ)
    → stations ≡ w.planes
    → ((n : ℤ) → plane_value planes n ≡ planed stations station chan n)
    → (n : ℤ) → plane_value planes n ≡ planed w.planes station chan n
channel-values w stations planes station chan same is n =
    is n ∙ ap (λ (ps : List (List PlanesFields)). planed ps station chan n) same

pub sum_channels-requires-clause-levelled : goal.sum_channels-requires-clause-levelled
sum_channels-requires-clause-levelled c =
    let w = c.args.self.now in
    let pair = c.args.pair.now in
    let is : IsWork w = subst IsWork c.self.view_is c.self.invariant in
    let same : c.self.inside.planes.now ≡ w.planes = ap (λ (v : WorkFields). v.planes) c.self.view_is in
    let first = c.channel-first.result.now in
    let second = c.channel-second.result.now in
    AllLevelled-planes first second (planed w.planes) pair is.levelled
    (channel-values w c.self.inside.planes.now first pair.a pair.x same c.channel-first.ensures)
    (channel-values w c.self.inside.planes.now second pair.b pair.y same c.channel-second.ensures)

pub returns : goal.returns
returns c =
    let w = c.args.self.now in
    let p = c.args.piece.now in
    let pair = c.args.pair.now in
    let same : c.self.inside.planes.now ≡ w.planes = ap (λ (v : WorkFields). v.planes) c.self.view_is in
    let first = c.channel-first.result.now in
    let second = c.channel-second.result.now in
    let cells : c.sum_channels.new.cells ≡ cells_over w p.from p.to pair =
    c.sum_channels.ensures
    ∙ bin_cells-values (bin_by w.phase) (bins_of w.phase) (plane_samples first second) (planed w.planes) plane_pair pair w.samples w.epoch.lags p.from p.to
    (channel-values w c.self.inside.planes.now first pair.a pair.x same c.channel-first.ensures)
    (channel-values w c.self.inside.planes.now second pair.b pair.y same c.channel-second.ensures) in
    let is : IsWork w = subst IsWork c.self.view_is c.self.invariant in
    record {
      cells = cells;
      few = omega (arith, c.sum_channels.auto.cells, c.requires.cells, cells-few w is);
      within = subst (All (λ (d : Cell). IsGrown d (p.to - p.from))) (sym cells) (All-cells_over w is pair p.from p.to);
    }
