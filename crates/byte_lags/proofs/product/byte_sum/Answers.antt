use Rattle.std.proofs.Common.{◌+◌, ℕ, arith, ap₂, sym, ◌∙◌}
use Rattle.byte_lags.proofs.Windows.{window-join, window-none, window-within}
use Rattle.byte_lags.proofs.product.byte_sum.Goals as goal

pub loop-at-init : goal.loop-at-init
loop-at-init c = record { within = omega arith; sum = window-none c.args.bytes.now 0 }

pub overflow_add-sum : goal.overflow_add-sum
overflow_add-sum c =
    let most = window-within c.args.bytes.now 0 c.loop-at.at c.type_inv.bytes in
    record { fits = omega (arith, most, c.loop-at.invariant.sum, c.loop-at.invariant.within, c.requires.size) }

pub loop-at-preserved : goal.loop-at-preserved
loop-at-preserved c =
    record {
      within = omega arith;
      sum = ap₂ (λ (x y : ℕ). x + y) c.loop-at.invariant.sum (c.from-sum.ensures ∙ c.stretch_sum.ensures)
          ∙ sym (window-join c.args.bytes.now c.loop-at.at _);
    }

pub returns-clause-small : goal.returns-clause-small
returns-clause-small c =
    let most = window-within c.args.bytes.now 0 c.loop-at.at c.type_inv.bytes in
    omega (arith, most, c.loop-at.invariant.sum, c.loop-at.invariant.within)
