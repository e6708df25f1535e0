use Rattle.std.proofs.Common.{◌-◌, ◌*◌, length, ap, subst, ◌∙◌, arith}
use Rattle.atomic_sums.specs.Sums.{EpochCells, Totals, totals_of, unbiased}
use Rattle.epoch_run.specs.Amounts.{WorkFields}
use Rattle.epoch_run.specs.Levelled.{IsWork}
use Rattle.epoch_run.proofs.Totals.{length-totals, totals-small, cells-epoch}
use Rattle.epoch_run.proofs.work.Work.sums.Goals as goal

pub unbias-requires-clause-thirds : goal.unbias-requires-clause-thirds
unbias-requires-clause-thirds c =
    let many = length-totals c.args.self.now c.args.board.sizes c.args.seat.state.finished (subst IsWork c.self.view_is c.self.invariant) c.requires.board c.in_ok-totals.ensures.each_once c.requires.amounts in
    omega (arith, ap (λ (t : Totals). length t.totals) c.in_ok-totals.ensures.sums, many)

pub unbias-requires-clause-small : goal.unbias-requires-clause-small
unbias-requires-clause-small c =
    rw c.in_ok-totals.ensures.sums
    (totals-small c.args.self.now c.args.board.sizes c.args.seat.state.finished (subst IsWork c.self.view_is c.self.invariant) c.requires.board c.in_ok-totals.ensures.each_once c.requires.amounts)

pub returns-clause-cells : goal.returns-clause-cells
returns-clause-cells c =
    let w = c.args.self.now in
    let is : IsWork w = subst IsWork c.self.view_is c.self.invariant in
    let k = c.args.board.sizes in
    let finished = c.args.seat.state.finished in
    let bias = 450 * (c.self.inside.epoch.now.to - c.self.inside.epoch.now.from) in
    ap (λ (sums : EpochCells). sums.cells) c.unbias.ensures
    ∙ ap (λ (t : Totals). (unbiased bias t).cells) c.in_ok-totals.ensures.sums
    ∙ ap (λ (v : WorkFields). (unbiased (450 * (v.epoch.to - v.epoch.from)) (totals_of k finished)).cells) c.self.view_is
    ∙ cells-epoch w k finished is c.requires.board c.in_ok-totals.ensures.each_once c.requires.amounts
