use Rattle.std.proofs.Common.{◌+◌, ℕ, arith, ap₂, sym, ◌∙◌}
use Rattle.byte_lags.proofs.Windows.{window-more, window-none, window-within}
use Rattle.byte_lags.proofs.product.stretch_sum.Goals as goal

pub loop-i-init : goal.loop-i-init
loop-i-init c = window-none c.args.bytes.now c.args.at

pub overflow_add-sum : goal.overflow_add-sum
overflow_add-sum c =
    let most = window-within c.args.bytes.now c.args.at c.loop-i.i c.type_inv.bytes in
    record { fits = omega (arith, most, c.loop-i.invariant, c.requires.size) }

pub loop-i-preserved : goal.loop-i-preserved
loop-i-preserved c =
    ap₂ (λ (x y : ℕ). x + y) c.loop-i.invariant c.from-sum.ensures ∙ sym (window-more c.args.bytes.now c.args.at c.loop-i.i)
