use Rattle.std.specs.Simd.Lanes.{chunk}
use Rattle.std.proofs.Common.{w8, lit≤}
use Rattle.std.proofs.lemmas.Simd.{length-chunk, chunk-fits}
use Rattle.byte_sums.proofs.Weights.{dot_fits, weights_fit}
use Rattle.byte_sums.proofs.Chunks.{dots-plus, dots-plus-len, dots-fit}
use Rattle.byte_sums.proofs.dots.plus.Goals as goal

pub dot4 : goal.dot4
dot4 c = (dot_fits c.args.b.now c.args.weights c.type_inv.b c.requires.weights c.args.at 32, weights_fit c.args.weights c.requires.weights)

pub overflow_add-result : goal.overflow_add-result
overflow_add-result c =
    let bytes = chunk c.args.at 32 c.args.b.now in
    dots-fit 8 c.args.sums bytes c.args.weights (lit≤ tt) c.requires.lanes (length-chunk c.args.at 32 c.args.b.now c.requires.room) c.requires.len (chunk-fits w8 c.args.at 32 c.args.b.now c.type_inv.b) c.requires.weights c.requires.small

pub returns-clause-lanes : goal.returns-clause-lanes
returns-clause-lanes c = dots-plus-len 8 c.args.sums (chunk c.args.at 32 c.args.b.now) c.args.weights c.requires.lanes (length-chunk c.args.at 32 c.args.b.now c.requires.room) c.requires.len

pub returns-clause-value : goal.returns-clause-value
returns-clause-value c = dots-plus 8 c.args.sums (chunk c.args.at 32 c.args.b.now) c.args.weights c.requires.lanes (length-chunk c.args.at 32 c.args.b.now c.requires.room) c.requires.len
