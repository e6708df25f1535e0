use Rattle.std.proofs.Common.{arith, ◌≡◌, ◌<◌, ◌+◌, ◌*◌, ◌^◌, ◌∙◌, ap, sym, subst, length, get_or, pos, ◌-ℤ◌, to_z, of_z}
use Rattle.std.specs.Int.{w64}
use Rattle.std.proofs.lemmas.List.{get_or_read}
use Rattle.atomic_sums.proofs.Cells.{in_items, in_totals, cell_is, less_is}
use Rattle.atomic_sums.proofs.sums.EpochSums.cell.Goals as goal

pub overflow_mul-at : goal.overflow_mul-at
overflow_mul-at c = omega (arith, in_totals c.self.inside c.args.self.now c.args.i c.self.view_is c.requires, c.self.inside.totals.small)

pub overflow_add-at : goal.overflow_add-at
overflow_add-at c = omega (arith, in_totals c.self.inside c.args.self.now c.args.i c.self.view_is c.requires, c.self.inside.totals.small)

pub overflow_add-at-2 : goal.overflow_add-at-2
overflow_add-at-2 c = omega (arith, in_totals c.self.inside c.args.self.now c.args.i c.self.view_is c.requires, c.self.inside.totals.small)

pub index-requires : goal.index-requires
index-requires c = omega (arith, in_totals c.self.inside c.args.self.now c.args.i c.self.view_is c.requires)

pub index-requires-2 : goal.index-requires-2
index-requires-2 c = omega (arith, in_totals c.self.inside c.args.self.now c.args.i c.self.view_is c.requires)

pub index-requires-3 : goal.index-requires-3
index-requires-3 c = omega (arith, in_totals c.self.inside c.args.self.now c.args.i c.self.view_is c.requires)

pub less_bias-requires-clause-total : goal.less_bias-requires-clause-total
less_bias-requires-clause-total c = subst (λ t. t < 2 ^ 62) (sym c.index.ensures) (c.self.invariant.totals (3 * c.args.i) c.index.result.now (omega (arith, in_items c.self.inside c.args.self.now c.args.i c.self.view_is c.requires)))

pub less_bias-requires-2-clause-total : goal.less_bias-requires-2-clause-total
less_bias-requires-2-clause-total c = subst (λ t. t < 2 ^ 62) (sym c.index-2.ensures) (c.self.invariant.totals (3 * c.args.i + 1) c.index-2.result.now (omega (arith, in_items c.self.inside c.args.self.now c.args.i c.self.view_is c.requires)))

pub returns : goal.returns
returns c =
    let bias = c.self.inside.bias in
    let totals = c.self.inside.totals.items in
    let lt = subst (λ s. c.args.i < length s.cells) (sym c.self.view_is) c.requires in
    let there = in_items c.self.inside c.args.self.now c.args.i c.self.view_is c.requires in
    let first = get_or_read totals (3 * c.args.i) c.index.result.now (omega (arith, there)) c.index.ensures 0 in
    let second = get_or_read totals (3 * c.args.i + 1) c.index-2.result.now (omega (arith, there)) c.index-2.ensures 0 in
    let third = get_or_read totals (3 * c.args.i + 2) c.index-3.result.now (omega (arith, there)) c.index-3.ensures 0 in
    let small = c.self.invariant.totals in
    let re = less_is c.less_bias.result c.index.result.now bias (subst (λ t. t < 2 ^ 62) (sym c.index.ensures) (small (3 * c.args.i) c.index.result.now (omega (arith, there)))) c.self.invariant.bias c.less_bias.ensures in
    let im = less_is c.less_bias-2.result c.index-2.result.now bias (subst (λ t. t < 2 ^ 62) (sym c.index-2.ensures) (small (3 * c.args.i + 1) c.index-2.result.now (omega (arith, there)))) c.self.invariant.bias c.less_bias-2.ensures in
    λ d. subst (λ s. get_or s.cells c.args.i d ≡ record { re = to_z w64 (of_z w64 c.less_bias.result); im = to_z w64 (of_z w64 c.less_bias-2.result); count = c.index-3.result.now }) c.self.view_is
    (cell_is bias totals c.args.i d (to_z w64 (of_z w64 c.less_bias.result)) (to_z w64 (of_z w64 c.less_bias-2.result)) c.index-3.result.now lt
    (re ∙ ap (λ t. pos t -ℤ pos bias) first)
    (im ∙ ap (λ t. pos t -ℤ pos bias) second)
    third)
