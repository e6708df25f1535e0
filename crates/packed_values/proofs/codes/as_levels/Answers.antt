use Rattle.std.proofs.Common.{◌<◌, ◌*◌, length, get_or, arith}
use Rattle.byte_streams.proofs.Bytes.{all_small}
use Rattle.packed_values.proofs.Tables.{bias-low, bias-at, level-most, level-value}
use Rattle.packed_values.proofs.codes.as_levels.Goals as goal

pub invariant_of-result : goal.invariant_of-result
invariant_of-result c =
    let codes = c.args._codes.now in
    let bias = c.args.bias in
    let new = c.args.bytes.now in
    record {
      levels = record {
        low = bias-low bias codes c.requires.bias;
        small = all_small (2 * bias) new (λ k lt.
            let within : k < length codes = omega (arith, lt, c.requires.len) in
            let is = bias-at bias codes c.requires.bias k within in
            let most = level-most bias c.args.direction (get_or codes k 0) c.requires.direction (c.type_inv._codes k).fits is (c.requires.along k within) in
            omega (arith, c.requires.each k within, most));
        unit_re = c.weights_of.ensures.re;
        unit_im = c.weights_of.ensures.im;
      };
    }

pub returns-clause-values : goal.returns-clause-values
returns-clause-values c = λ k lt.
    let codes = c.args._codes.now in
    let is = bias-at c.args.bias codes c.requires.bias k lt in
    rw (c.requires.each k lt, c.weights_of.ensures.weights)
    (level-value c.args.bias c.args.direction (get_or codes k 0) c.requires.direction (c.type_inv._codes k).fits is (c.requires.along k lt))
