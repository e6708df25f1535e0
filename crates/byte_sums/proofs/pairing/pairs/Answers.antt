use Rattle.std.proofs.Common.{ℕ, ◌+◌, ◌*◌, ap, ap₂, sym, ◌∙◌, arith, get_or}
use Rattle.std.specs.Simd.Lanes.{zip2}
use Rattle.std.proofs.lemmas.Simd.{get_or-zip2, length-zip2}
use Rattle.byte_sums.proofs.pairing.pairs.Goals as goal

pub returns-clause-lanes : goal.returns-clause-lanes
returns-clause-lanes c = λ k lt.
    let b = c.even.result in
    let a = c.even-2.result in
    let d = c.odd.result in
    let e = c.odd-2.result in
    let front = length-zip2 (λ (x y : ℕ). x * y) b a (c.even.ensures.len ∙ sym c.even-2.ensures.len) in
    let back = length-zip2 (λ (x y : ℕ). x * y) d e (c.odd.ensures.len ∙ sym c.odd-2.ensures.len) in
    ap (λ l. get_or l k 0) c.sums.ensures
    ∙ get_or-zip2 (λ (x y : ℕ). x + y) (zip2 (λ x y. x * y) b a) (zip2 (λ x y. x * y) d e) k 0 0 0 (omega (arith, front, c.even.ensures.len)) (omega (arith, back, c.odd.ensures.len))
    ∙ ap₂ (λ (x y : ℕ). x + y)
    (get_or-zip2 (λ (x y : ℕ). x * y) b a k 0 0 0 (omega (arith, c.even.ensures.len)) (omega (arith, c.even-2.ensures.len)) ∙ ap₂ (λ (x y : ℕ). x * y) (c.even.ensures.lanes k lt) (c.even-2.ensures.lanes k lt))
    (get_or-zip2 (λ (x y : ℕ). x * y) d e k 0 0 0 (omega (arith, c.odd.ensures.len)) (omega (arith, c.odd-2.ensures.len)) ∙ ap₂ (λ (x y : ℕ). x * y) (c.odd.ensures.lanes k lt) (c.odd-2.ensures.lanes k lt))
