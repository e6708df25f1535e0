use Rattle.std.proofs.Common.{◌+◌, ◌-◌, sym, subst, arith}
use Rattle.corr_model.specs.declared.cell.Cell.{Cell}
use Rattle.corr_model.proofs.CellLemmas.{cell_in-none, cell_in-step, IsGrown, IsGrown-none, IsGrown-more}
use Rattle.corr_model.proofs.plain.plain_cell.Goals as goal

pub loop-n-init : goal.loop-n-init
loop-n-init g c = record {
  value = sym (cell_in-none _ _ _ _ _);
  grown = IsGrown-none _;
}

pub loop-n-preserved : goal.loop-n-preserved
loop-n-preserved g c = record {
  value =
      cell_in-step _ _ _ _ _ _ _ _ _ (omega arith) c.loop-n.invariant.value c.product_at.ensures.value
      c.plus-cell.ensures.sum;
  grown =
      subst (λ (d : Cell). IsGrown d (c.loop-n.n + 1 - c.args.from)) (sym c.plus-cell.ensures.sum)
      (IsGrown-more _ _ _ _ c.loop-n.invariant.grown c.product_at.ensures.small (omega arith));
}
