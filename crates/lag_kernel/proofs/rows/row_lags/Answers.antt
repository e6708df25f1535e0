use Rattle.std.proofs.Common.{◌≡◌, ℕ, ◌-◌, ◌≤◌, length, ap, sym, subst, ◌∙◌, arith}
use Rattle.std.proofs.lemmas.List.FromFn.{fill_by_all}
use Rattle.corr_model.specs.declared.cell.Cell.{Cell}
use Rattle.corr_model.specs.Cell.{cell_in, no_cell}
use Rattle.corr_model.specs.Lags.{lag_of}
use Rattle.corr_model.proofs.CellLemmas.{IsGrown, IsGrown-none, cell_in-none}
use Rattle.lag_kernel.specs.Planes.{plane_pair}
use Rattle.lag_kernel.specs.Rows.{row_samples}
use Rattle.lag_kernel.proofs.HeldLemmas.{cells-more, grown-more}
use Rattle.lag_kernel.proofs.rows.row_lags.Goals as goal

pub loop-at-init : goal.loop-at-init
loop-at-init c = record {
  begun = omega arith;
  within = c.requires.range.order;
  cells = λ k d h. c.clear.ensures k d h ∙ sym (cell_in-none (row_samples c.args.a.now c.args.b.now) plane_pair c.args.samples (lag_of (length c.args.out.now) k) c.args.from);
  grown = λ k d h. subst (λ (cell : Cell). IsGrown cell (c.args.from - c.args.from)) (sym (c.clear.ensures k d h)) (IsGrown-none (c.args.from - c.args.from));
}

pub add_block-requires-clause-block : goal.add_block-requires-clause-block
add_block-requires-clause-block c =
    let stop = c.next_stop-stop.ensures in
    record { order = omega (arith, stop.some); inside = omega (arith, stop.most, c.requires.range.inside); scan = c.requires.range.scan; most = omega (arith, stop.block) }

pub loop-at-preserved : goal.loop-at-preserved
loop-at-preserved c =
    let z = row_samples c.args.a.now c.args.b.now in
    let stop = c.next_stop-stop.result in
    let at = c.loop-at.at in
    let same : length c.loop-at.out ≡ length c.args.out.now = c.loop-at.auto.out ∙ c.clear.auto.out in
    let above : at ≤ stop = omega (arith, c.next_stop-stop.ensures.some) in
    let below : stop ≤ c.args.to = c.next_stop-stop.ensures.most in
    record {
      begun = omega (arith, above, c.loop-at.invariant.begun);
      within = below;
      cells = cells-more z plane_pair c.args.samples c.args.from at stop (length c.args.out.now) c.loop-at.out c.add_block.new.out c.loop-at.invariant.begun above same c.loop-at.invariant.cells c.add_block.ensures.adds;
      grown = grown-more c.args.from at stop (length c.args.out.now) c.loop-at.out c.add_block.new.out c.loop-at.invariant.begun above same c.add_block.ensures.grown;
    }

pub returns : goal.returns
returns c =
    let end : c.loop-at.at ≡ c.args.to = omega (arith, c.loop-at-test.false, c.loop-at.invariant.within) in
    let f : ℕ → Cell = λ i. cell_in (row_samples c.args.a.now c.args.b.now) plane_pair c.args.samples (lag_of (length c.args.out.now) i) c.args.from c.args.to in
    fill_by_all f c.loop-at.out (length c.args.out.now) no_cell
    (c.loop-at.auto.out ∙ c.clear.auto.out)
    (λ k h. c.loop-at.invariant.cells k no_cell h ∙ ap (cell_in (row_samples c.args.a.now c.args.b.now) plane_pair c.args.samples (lag_of (length c.args.out.now) k) c.args.from) end)
