use Rattle.std.proofs.Common.{◌≡◌, ◌<◌, w16, to_z, of_z, ◌∙◌, arith}
use Rattle.std.proofs.lemmas.Int.{ints}
use Rattle.byte_streams.specs.Values.{im_of, re_of, there_of}
use Rattle.lag_kernel.proofs.PartsLemmas.{fills-none, fills-more, fills-all}
use Rattle.lag_kernel.proofs.parts.Parts.of.Goals as goal

pub loop-k-init : goal.loop-k-init
loop-k-init c = record {
  re = fills-none re_of c.args.values.now;
  im = fills-none im_of c.args.values.now;
  there = fills-none there_of c.args.values.now;
}

pub loop-k-preserved : goal.loop-k-preserved
loop-k-preserved c =
    let inside : c.loop-k.k < 2048 = omega (arith, c.loop-k-test.true, c.requires) in
    let re : to_z w16 (of_z w16 c.re_of.result) ≡ c.re_of.result = omega (arith, ints) in
    let im : to_z w16 (of_z w16 c.im_of.result) ≡ c.im_of.result = omega (arith, ints) in
    record {
      re = fills-more re_of c.args.values.now c.loop-k.k c.loop-k.re _ c.loop-k.invariant.re inside (re ∙ c.re_of.ensures);
      im = fills-more im_of c.args.values.now c.loop-k.k c.loop-k.im _ c.loop-k.invariant.im inside (im ∙ c.im_of.ensures);
      there = fills-more there_of c.args.values.now c.loop-k.k c.loop-k.there _ c.loop-k.invariant.there inside c.there_of.ensures;
    }

pub returns : goal.returns
returns c = record {
  re = fills-all re_of c.args.values.now c.loop-k.k c.loop-k.re c.loop-k.invariant.re (omega arith);
  im = fills-all im_of c.args.values.now c.loop-k.k c.loop-k.im c.loop-k.invariant.im (omega arith);
  there = fills-all there_of c.args.values.now c.loop-k.k c.loop-k.there c.loop-k.invariant.there (omega arith);
}
