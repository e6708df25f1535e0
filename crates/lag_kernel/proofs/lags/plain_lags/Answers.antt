use Rattle.std.proofs.Common.{◌≡◌, ℕ, ◌-◌, ◌≤◌, length, ap, sym, subst, ◌∙◌, arith}
use Rattle.std.proofs.lemmas.List.FromFn.{fill_by_all}
use Rattle.corr_model.specs.declared.cell.Cell.{Cell}
use Rattle.corr_model.specs.Cell.{cell_in, no_cell}
use Rattle.corr_model.specs.Lags.{lag_of}
use Rattle.corr_model.proofs.CellLemmas.{IsGrown, IsGrown-none, cell_in-none}
use Rattle.lag_kernel.proofs.HeldLemmas.{cells-more, grown-more}
use Rattle.lag_kernel.proofs.lags.plain_lags.Goals as goal

pub loop-at-init : goal.loop-at-init
loop-at-init g c = record {
  begun = omega arith;
  within = c.requires.order;
  cells = λ k d h. c.clear.ensures k d h ∙ sym (cell_in-none (g.V.Values.samples c.args.v.now) c.args.pair.now c.args.samples (lag_of (length c.args.out.now) k) c.args.from);
  grown = λ k d h. subst (λ (cell : Cell). IsGrown cell (c.args.from - c.args.from)) (sym (c.clear.ensures k d h)) (IsGrown-none (c.args.from - c.args.from));
}

pub add_block-requires-clause-block : goal.add_block-requires-clause-block
add_block-requires-clause-block g c =
    record { order = omega (arith, c.min-stop.ensures, c.loop-at-test.true); inside = omega (arith, c.min-stop.ensures, c.requires.inside); scan = c.requires.scan; most = omega (arith, c.min-stop.ensures) }

pub loop-at-preserved : goal.loop-at-preserved
loop-at-preserved g c =
    let z = g.V.Values.samples c.args.v.now in
    let stop = c.min-stop.result in
    let at = c.loop-at.at in
    let same : length c.loop-at.out ≡ length c.args.out.now = c.loop-at.auto.out ∙ c.clear.auto.out in
    let above : at ≤ stop = omega (arith, c.min-stop.ensures, c.loop-at-test.true) in
    let below : stop ≤ c.args.to = omega (arith, c.min-stop.ensures) in
    record {
      begun = omega (arith, above, c.loop-at.invariant.begun);
      within = below;
      cells = cells-more z c.args.pair.now c.args.samples c.args.from at stop (length c.args.out.now) c.loop-at.out c.add_block.new.out c.loop-at.invariant.begun above same c.loop-at.invariant.cells c.add_block.ensures.adds;
      grown = grown-more c.args.from at stop (length c.args.out.now) c.loop-at.out c.add_block.new.out c.loop-at.invariant.begun above same c.add_block.ensures.grown;
    }

pub returns : goal.returns
returns g c =
    let end : c.loop-at.at ≡ c.args.to = omega (arith, c.loop-at-test.false, c.loop-at.invariant.within) in
    let f : ℕ → Cell = λ i. cell_in (g.V.Values.samples c.args.v.now) c.args.pair.now c.args.samples (lag_of (length c.args.out.now) i) c.args.from c.args.to in
    fill_by_all f c.loop-at.out (length c.args.out.now) no_cell
    (c.loop-at.auto.out ∙ c.clear.auto.out)
    (λ k h. c.loop-at.invariant.cells k no_cell h ∙ ap (cell_in (g.V.Values.samples c.args.v.now) c.args.pair.now c.args.samples (lag_of (length c.args.out.now) k) c.args.from) end)
