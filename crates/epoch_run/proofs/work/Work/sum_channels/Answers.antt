use Rattle.std.proofs.Common.{◌≡◌, ◌*◌, ◌∙◌, ℕ, List, Option, None, ap, sym, arith}
use Rattle.corr_model.specs.declared.cell.Cell.{Cell}
use Rattle.corr_model.specs.Cell.{Samples}
use Rattle.lag_kernel.specs.Planes.{plane_pair, plane_samples}
use Rattle.epoch_run.specs.Sums.{pair_cells}
use Rattle.epoch_run.specs.Binned.{PhaseFields, bin_by, bin_cells, bins_of, phase_of}
use Rattle.epoch_run.specs.Amounts.{WorkFields, cells_of}
use Rattle.epoch_run.proofs.BinnedCells.{bin_cells-one}
use Rattle.epoch_run.proofs.work.Work.sum_channels.Goals as goal

-- without a phase the cells are those of the pair
plain : (w : WorkFields) (z : Samples) (samples long from to : ℕ) (new : List Cell) → w.phase ≡ None → samples ≡ w.samples
    → long ≡ cells_of w
    → new ≡ pair_cells z samples long from to plane_pair
    → new ≡ bin_cells (bin_by w.phase) (bins_of w.phase) z w.samples w.epoch.lags from to plane_pair
plain w z samples long from to new none same many is =
    let one : 1 * w.epoch.lags ≡ w.epoch.lags = omega arith in
    let lags : long ≡ w.epoch.lags = many ∙ ap (λ (p : Option PhaseFields). bins_of p * w.epoch.lags) none ∙ one in
    is
    ∙ ap (λ (n : ℕ). pair_cells z n long from to plane_pair) same
    ∙ ap (λ (n : ℕ). pair_cells z w.samples n from to plane_pair) lags
    ∙ sym (bin_cells-one z w.samples w.epoch.lags from to plane_pair)
    ∙ ap (λ (p : Option PhaseFields). bin_cells (bin_by p) (bins_of p) z w.samples w.epoch.lags from to plane_pair) (sym none)

pub returns-in-None : goal.returns-in-None
returns-in-None c =
    let w = c.args.self.now in
    let none : w.phase ≡ None = sym (ap (λ (v : WorkFields). v.phase) c.self.view_is) ∙ ap phase_of c.in-None.is in
    plain w (plane_samples c.args.a.now c.args.b.now) c.self.inside.samples _ c.args.piece.now.from c.args.piece.now.to c.plane_lags.new.out none
    (ap (λ (v : WorkFields). v.samples) c.self.view_is) c.requires.cells c.plane_lags.ensures
