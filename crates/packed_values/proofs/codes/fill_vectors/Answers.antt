use Rattle.std.proofs.Common.{◌*◌, ◌+◌, ◌≤◌, length, arith, ◌∙◌}
use Rattle.std.proofs.lemmas.Simd.{length-chunk, length-put_chunk}
use Rattle.packed_values.specs.Tables.{biased_of, there_of}
use Rattle.packed_values.specs.declared.codes.TheConstants.{LEVELS, REAL, IMAGINARY}
use Rattle.packed_values.proofs.Lanes.{stored}
use Rattle.packed_values.proofs.codes.fill_vectors.Goals as goal

pub components-requires-clause-codes : goal.components-requires-clause-codes
components-requires-clause-codes c = length-chunk (32 * c.loop-i.i) 32 c.args.codes.now (omega (arith, c.requires.count, c.loop-i-test.true))

pub loop-i-preserved : goal.loop-i-preserved
loop-i-preserved c =
    let at = 32 * c.loop-i.i in
    let codes = c.args.codes.now in
    let old = c.loop-i.invariant in
    let bias = c.args.bias in
    let room : at + 32 ≤ length codes = omega (arith, c.requires.count, c.loop-i-test.true) in
    let re = c.components.result in
    let im = c.components-in-loop-i.result in
    let there = c.theres.result in
    record {
      re_len = length-put_chunk at c.loop-i.re re ∙ old.re_len;
      im_len = length-put_chunk at c.loop-i.im im ∙ old.im_len;
      there_len = length-put_chunk at c.loop-i.there there ∙ old.there_len;
      re = λ k lt. stored (biased_of LEVELS REAL bias) at codes c.loop-i.re re room old.re_len c.components.ensures old.re k (omega (arith, lt));
      im = λ k lt. stored (biased_of LEVELS IMAGINARY bias) at codes c.loop-i.im im room old.im_len c.components-in-loop-i.ensures old.im k (omega (arith, lt));
      there = λ k lt. stored there_of at codes c.loop-i.there there room old.there_len c.theres.ensures old.there k (omega (arith, lt));
    }
