use Rattle.std.proofs.Common.{◌≡◌, ℕ, ◌*◌, ◌+◌, ◌∙◌, ap, ap₂, refl, sym, subst, arith, w32, to_z, of_z}
use Rattle.fringe_search.specs.Layout.{cell_at}
use Rattle.fringe_search.specs.Sums.{size, sector, turned_re, turned_im, int_sum, nat_sum}
use Rattle.fringe_search.specs.Phases.{rest_of}
use Rattle.fringe_search.proofs.Phasing.{sector_of_rest}
use Rattle.fringe_search.proofs.Sectors.{IsRest, rest_none, rest_more, sector_is}
use Rattle.fringe_search.proofs.SumBounds.{re_more, within_more, term_within}
use Rattle.fringe_search.proofs.sums.sum_at.Goals as goal

pub loop-m-init : goal.loop-m-init
unfolding int_sum nat_sum
loop-m-init c =
    let none : 0 ≡ 0 * c.args.grid.now.divide + 0 = omega arith in
    record {
      re = refl;
      im = refl;
      re_within = omega arith;
      im_within = omega arith;
      phase = record { sector = omega arith; part = omega arith };
      rest =
          subst (λ (n : ℕ). IsRest (to_z w32 (of_z w32 c.args.rate)) 0 (16 * c.args.grid.now.divide) n) none
          (rest_none (to_z w32 (of_z w32 c.args.rate)) (16 * c.args.grid.now.divide) (omega arith));
    }

pub turned-requires-clause-small : goal.turned-requires-clause-small
turned-requires-clause-small c =
    let is = ap size c.cell.ensures in
    let within = term_within (λ m. size (cell_at c.args.series.now m c.args.lag)) c.loop-m.m c.args.series.now.integrations (omega arith) in
    omega (arith, is, within, c.requires.small)

pub plus-sum-requires-clause-re : goal.plus-sum-requires-clause-re
plus-sum-requires-clause-re c =
    let is = ap size c.cell.ensures in
    let within = term_within (λ m. size (cell_at c.args.series.now m c.args.lag)) c.loop-m.m c.args.series.now.integrations (omega arith) in
    omega (arith, is, within, c.requires.small, c.loop-m.invariant.re_within, c.turned.ensures.re_within)

pub plus-sum-requires-clause-im : goal.plus-sum-requires-clause-im
plus-sum-requires-clause-im c =
    let is = ap size c.cell.ensures in
    let within = term_within (λ m. size (cell_at c.args.series.now m c.args.lag)) c.loop-m.m c.args.series.now.integrations (omega arith) in
    omega (arith, is, within, c.requires.small, c.loop-m.invariant.im_within, c.turned.ensures.im_within)

pub loop-m-preserved : goal.loop-m-preserved
loop-m-preserved c =
    let v = c.args.series.now in
    let divide = c.args.grid.now.divide in
    let lag = c.args.lag in
    let m = c.loop-m.m in
    let rate = to_z w32 (of_z w32 c.args.rate) in
    let phase = c.loop-m.phase in
    let rest = rest_of divide phase in
    let k = sym (sector_of_rest phase.sector phase.part divide rest c.loop-m.invariant.phase.part refl) ∙ sector_is rate m divide rest (omega arith) c.loop-m.invariant.rest in
    let g = λ (m : ℕ). size (cell_at v m lag) in
    let is = ap size c.cell.ensures in
    record {
      re = re_more (λ m. turned_re (cell_at v m lag) (sector rate divide m)) m c.loop-m.sum.re c.turned.result.re _ c.loop-m.invariant.re c.plus-sum.ensures.re (c.turned.ensures.re ∙ ap₂ turned_re c.cell.ensures k);
      im = re_more (λ m. turned_im (cell_at v m lag) (sector rate divide m)) m c.loop-m.sum.im c.turned.result.im _ c.loop-m.invariant.im c.plus-sum.ensures.im (c.turned.ensures.im ∙ ap₂ turned_im c.cell.ensures k);
      re_within = within_more g 16384 m c.loop-m.sum.re c.turned.result.re _ c.loop-m.invariant.re_within c.plus-sum.ensures.re (omega (arith, is, c.turned.ensures.re_within));
      im_within = within_more g 16384 m c.loop-m.sum.im c.turned.result.im _ c.loop-m.invariant.im_within c.plus-sum.ensures.im (omega (arith, is, c.turned.ensures.im_within));
      phase = c.next-phase.ensures.within;
      rest = rest_more rate m (16 * divide) rest (rest_of divide c.step_of-step.result) _ c.loop-m.invariant.rest c.step_of-step.ensures.value c.next-phase.ensures.value;
    }
