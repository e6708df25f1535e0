use Rattle.std.proofs.Common.{◌≡◌, ◌+◌, pos, ◌+ℤ◌, ◌*ℤ◌, get_or, w16, w32, to_z, of_z, arith}
use Rattle.std.proofs.lemmas.Int.{ints}
use Rattle.lag_kernel.proofs.PartsLemmas.{dot_of-more}
use Rattle.lag_kernel.proofs.sums.dot.Goals as goal

pub loop-k-preserved : goal.loop-k-preserved
loop-k-preserved c =
    let k = c.loop-k.k in
    let small_a = c.requires.small_a k in
    let small_b = c.requires.small_b (c.args.i + k) in
    let a : to_z w16 (of_z w16 (get_or c.args.a.now k (pos 0))) ≡ get_or c.args.a.now k (pos 0) = omega (arith, ints, small_a.0, small_a.1) in
    let b : to_z w16 (of_z w16 (get_or c.args.b.now (c.args.i + k) (pos 0))) ≡ get_or c.args.b.now (c.args.i + k) (pos 0) =
    omega (arith, ints, small_b.0, small_b.1) in
    let one : c.product-sum.result ≡ get_or c.args.a.now k (pos 0) *ℤ get_or c.args.b.now (c.args.i + k) (pos 0) = rw (a, b) at c.product-sum.ensures.value in
    let whole : to_z w32 (of_z w32 (to_z w32 c.loop-k.sum-bits +ℤ to_z w32 (of_z w32 c.product-sum.result))) ≡ to_z w32 c.loop-k.sum-bits +ℤ c.product-sum.result =
    omega (arith, ints) in
    record {
      sum = rw (dot_of-more c.args.a.now c.args.b.now c.args.i k, ← c.loop-k.invariant.sum, ← one) whole;
      low = omega (arith, ints);
      high = omega (arith, ints);
    }
