use Rattle.std.proofs.Common.{◌+ℤ◌, ◌-ℤ◌, w8, FitsSigned, refl, sym, subst, ◌∙◌, rules}
use Rattle.corr_model.specs.Cell.{IsProduct}
use Rattle.corr_model.proofs.CellLemmas.{same_cell, passed_product, passed_small, passed_sum, passed_difference, passed_sum-fits, passed_difference-fits, product_of-small}
use Rattle.corr_model.proofs.plain.product.Goals as goal

-- the components of the two values are small
pub product_of_parts-requires-clause-first : goal.product_of_parts-requires-clause-first
product_of_parts-requires-clause-first c = let small = rw c.in-Some-Some.is-0 at c.requires.first in passed_small _ small.0

pub product_of_parts-requires-clause-second : goal.product_of_parts-requires-clause-second
product_of_parts-requires-clause-second c = let small = rw c.in-Some-Some.is-1 at c.requires.second in passed_small _ small.0

pub product_of_parts-requires-in-Some-Some-clause-first : goal.product_of_parts-requires-in-Some-Some-clause-first
product_of_parts-requires-in-Some-Some-clause-first c = let small = rw c.in-Some-Some.is-0 at c.requires.first in passed_small _ small.1

pub product_of_parts-requires-in-Some-Some-clause-second : goal.product_of_parts-requires-in-Some-Some-clause-second
product_of_parts-requires-in-Some-Some-clause-second c = let small = rw c.in-Some-Some.is-1 at c.requires.second in passed_small _ small.1

pub product_of_parts-requires-in-Some-Some-2-clause-first : goal.product_of_parts-requires-in-Some-Some-2-clause-first
product_of_parts-requires-in-Some-Some-2-clause-first c = let small = rw c.in-Some-Some.is-0 at c.requires.first in passed_small _ small.1

pub product_of_parts-requires-in-Some-Some-2-clause-second : goal.product_of_parts-requires-in-Some-Some-2-clause-second
product_of_parts-requires-in-Some-Some-2-clause-second c = let small = rw c.in-Some-Some.is-1 at c.requires.second in passed_small _ small.0

pub product_of_parts-requires-in-Some-Some-3-clause-first : goal.product_of_parts-requires-in-Some-Some-3-clause-first
product_of_parts-requires-in-Some-Some-3-clause-first c = let small = rw c.in-Some-Some.is-0 at c.requires.first in passed_small _ small.0

pub product_of_parts-requires-in-Some-Some-3-clause-second : goal.product_of_parts-requires-in-Some-Some-3-clause-second
product_of_parts-requires-in-Some-Some-3-clause-second c = let small = rw c.in-Some-Some.is-1 at c.requires.second in passed_small _ small.1

pub overflow_add-result : goal.overflow_add-result
overflow_add-result c =
    passed_sum-fits _ _ (c.product_of_parts.ensures.low, c.product_of_parts.ensures.high) (c.product_of_parts-in-Some-Some.ensures.low, c.product_of_parts-in-Some-Some.ensures.high)

pub overflow_sub-result : goal.overflow_sub-result
overflow_sub-result c =
    passed_difference-fits _ _ (c.product_of_parts-in-Some-Some-2.ensures.low, c.product_of_parts-in-Some-Some-2.ensures.high)
    (c.product_of_parts-in-Some-Some-3.ensures.low, c.product_of_parts-in-Some-Some-3.ensures.high)

pub returns-in-Some-Some-clause-value : goal.returns-in-Some-Some-clause-value
returns-in-Some-Some-clause-value c =
    let ar : FitsSigned w8 c.in-Some-Some.ar = search rules in
    let ai : FitsSigned w8 c.in-Some-Some.ai = search rules in
    let br : FitsSigned w8 c.in-Some-Some.br = search rules in
    let bi : FitsSigned w8 c.in-Some-Some.bi = search rules in
    let re-1 = passed_product _ _ _ ar br c.product_of_parts.ensures.value in
    let re-2 = passed_product _ _ _ ai bi c.product_of_parts-in-Some-Some.ensures.value in
    let im-1 = passed_product _ _ _ ai br c.product_of_parts-in-Some-Some-2.ensures.value in
    let im-2 = passed_product _ _ _ ar bi c.product_of_parts-in-Some-Some-3.ensures.value in
    rw (c.in-Some-Some.is-0, c.in-Some-Some.is-1)
    (same_cell _ _ _ _ _ _
    (passed_sum _ _ (c.product_of_parts.ensures.low, c.product_of_parts.ensures.high) (c.product_of_parts-in-Some-Some.ensures.low, c.product_of_parts-in-Some-Some.ensures.high) ∙ (λ i. re-1 i +ℤ re-2 i))
    (passed_difference _ _ (c.product_of_parts-in-Some-Some-2.ensures.low, c.product_of_parts-in-Some-Some-2.ensures.high)
    (c.product_of_parts-in-Some-Some-3.ensures.low, c.product_of_parts-in-Some-Some-3.ensures.high)
    ∙ (λ i. im-1 i -ℤ im-2 i))
    refl)

pub returns-in-Some-Some-clause-small : goal.returns-in-Some-Some-clause-small
returns-in-Some-Some-clause-small c =
    subst IsProduct (sym (returns-in-Some-Some-clause-value c)) (product_of-small c.args.first c.args.second c.requires.first c.requires.second)
