use Rattle.std.proofs.Common.{ℕ, ◌≡◌, ◌+◌, length, get_or, ap, sym, ◌∙◌, arith}
use Rattle.std.specs.Simd.Lanes.{zip2}
use Rattle.std.proofs.lemmas.Simd.{length-zip2, get_or-zip2}
use Rattle.byte_sums.proofs.Joined.{fit-within, sums-within}
use Rattle.byte_sums.proofs.fields.three.Goals as goal

pub overflow_add-result : goal.overflow_add-result
overflow_add-result c = fit-within 1530 1530 (omega arith) c.args.x c.args.y c.requires.small.0 c.requires.small.1

pub overflow_add-result-2 : goal.overflow_add-result-2
overflow_add-result-2 c =
    fit-within 3060 1530 (omega arith) (zip2 (λ x y. x + y) c.args.x c.args.y) c.args.z (sums-within 1530 1530 c.args.x c.args.y c.requires.small.0 c.requires.small.1) c.requires.small.2

pub returns-clause-len : goal.returns-clause-len
returns-clause-len c =
    let two : length (zip2 (λ (x y : ℕ). x + y) c.args.x c.args.y) ≡ 16 = length-zip2 (λ (x y : ℕ). x + y) c.args.x c.args.y (c.requires.lens.0 ∙ sym c.requires.lens.1) ∙ c.requires.lens.0 in
    length-zip2 (λ (x y : ℕ). x + y) (zip2 (λ x y. x + y) c.args.x c.args.y) c.args.z (two ∙ sym c.requires.lens.2) ∙ two

pub returns-clause-lanes : goal.returns-clause-lanes
returns-clause-lanes c = λ k lt.
    let two : length (zip2 (λ (x y : ℕ). x + y) c.args.x c.args.y) ≡ 16 = length-zip2 (λ (x y : ℕ). x + y) c.args.x c.args.y (c.requires.lens.0 ∙ sym c.requires.lens.1) ∙ c.requires.lens.0 in
    get_or-zip2 (λ (x y : ℕ). x + y) (zip2 (λ x y. x + y) c.args.x c.args.y) c.args.z k 0 0 0 (omega (arith, two, lt)) (omega (arith, c.requires.lens.2, lt))
    ∙ ap (λ n. n + get_or c.args.z k 0) (get_or-zip2 (λ (x y : ℕ). x + y) c.args.x c.args.y k 0 0 0 (omega (arith, c.requires.lens.0, lt)) (omega (arith, c.requires.lens.1, lt)))

pub returns-clause-small : goal.returns-clause-small
returns-clause-small c = sums-within 3060 1530 (zip2 (λ x y. x + y) c.args.x c.args.y) c.args.z (sums-within 1530 1530 c.args.x c.args.y c.requires.small.0 c.requires.small.1) c.requires.small.2
