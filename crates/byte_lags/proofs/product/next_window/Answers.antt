use Rattle.std.proofs.Common.{◌+◌, arith}
use Rattle.byte_lags.proofs.Windows.{window-next, window-within}
use Rattle.byte_lags.proofs.product.next_window.Goals as goal

pub overflow_add-result : goal.overflow_add-result
overflow_add-result c =
    let most = window-within c.args.bytes.now c.args.at c.args.count c.type_inv.bytes in
    record { fits = omega (arith, most, c.requires.sum) }

pub overflow_sub-result : goal.overflow_sub-result
overflow_sub-result c =
    let next = window-next c.args.bytes.now c.args.at c.args.count in
    omega (arith, next, c.requires.sum, c.from.ensures, c.from-2.ensures)

pub returns-clause-value : goal.returns-clause-value
returns-clause-value c =
    let next = window-next c.args.bytes.now c.args.at c.args.count in
    omega (arith, next, c.requires.sum, c.from.ensures, c.from-2.ensures)

pub returns-clause-small : goal.returns-clause-small
returns-clause-small c =
    let next = window-next c.args.bytes.now c.args.at c.args.count in
    let most = window-within c.args.bytes.now (c.args.at + 1) c.args.count c.type_inv.bytes in
    omega (arith, next, most, c.requires.sum, c.from.ensures, c.from-2.ensures)
