use Rattle.std.proofs.Common.{◌≡◌, bit_and, bit_xor, get_or, below_more, arith}
use Rattle.packed_values.proofs.Bits.{neither, none_of_either}
use Rattle.packed_values.proofs.kinds.differing.Goals as goal

pub loop-code-preserved : goal.loop-code-preserved
loop-code-preserved c =
    let codes = c.args.codes.now in
    let one = c.args.one in
    let i = c.loop-code.code-index in
    let this = bit_xor (get_or codes i 0) one in
    record {
      each = λ m e.
          let both = neither c.loop-code.bits this m e in
          below_more (λ j. bit_and (bit_xor (get_or codes j 0) one) m ≡ 0) i (c.loop-code.invariant.each m both.0) both.1;
      all = λ m every.
          none_of_either c.loop-code.bits this m
          (c.loop-code.invariant.all m (λ k lt. every k (omega (arith, lt))))
          (every i (omega arith));
    }
