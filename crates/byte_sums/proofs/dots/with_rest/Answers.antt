use Rattle.std.proofs.Common.{ℕ, sym, ap₂, ◌≡◌, ◌+◌, ◌*◌, arith, ◌∙◌, get_or}
use Rattle.byte_sums.proofs.Chunks.{place-more, lag_sum-within}
use Rattle.byte_sums.proofs.dots.with_rest.Goals as goal

pub overflow_add-all : goal.overflow_add-all
overflow_add-all c =
    let a = c.args.a.now in
    let b = c.args.b.now in
    let i = c.loop-i.i in
    let more = place-more a b c.args.at i in
    let most = lag_sum-within a b c.args.at (i + 1) c.requires.weights c.type_inv.b in
    let product : c.from.result * c.from-in-loop-i.result ≡ get_or a i 0 * get_or b (c.args.at + i) 0 = ap₂ (λ (x y : ℕ). x * y) c.from.ensures c.from-in-loop-i.ensures in
    record { fits = omega (arith, more, most, c.loop-i.invariant, c.requires.size, product) }

pub loop-i-preserved : goal.loop-i-preserved
loop-i-preserved c =
    let more = place-more c.args.a.now c.args.b.now c.args.at c.loop-i.i in
    ap₂ (λ (x y : ℕ). x + y) c.loop-i.invariant (ap₂ (λ (x y : ℕ). x * y) c.from.ensures c.from-in-loop-i.ensures) ∙ sym more
