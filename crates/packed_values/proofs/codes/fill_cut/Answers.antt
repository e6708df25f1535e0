use Rattle.std.proofs.Common.{◌≡◌, ◌+◌, length, refl, arith, ◌∙◌}
use Rattle.packed_values.specs.Tables.{biased_of, there_of}
use Rattle.packed_values.specs.declared.codes.TheConstants.{LEVELS, REAL, IMAGINARY}
use Rattle.packed_values.proofs.Cuts.{Filled, length-filled, filled-at}
use Rattle.packed_values.proofs.codes.fill_cut.Goals as goal

pub returns : goal.returns
returns c =
    let codes = c.args.codes.now in
    let bias = c.args.bias in
    let first = c.args.first in
    let last = first + length codes in
    let n = length c.args.there.now in
    let real = biased_of LEVELS REAL bias in
    let imaginary = biased_of LEVELS IMAGINARY bias in
    let real_zero : real 0 ≡ bias = omega (arith, c.ranges.bias.fits) in
    let imaginary_zero : imaginary 0 ≡ bias = omega (arith, c.ranges.bias.fits) in
    let re : Filled real bias first last n codes c.fill_outside.new.out c.fill_streams.new.re = record {
      long = c.fill_outside.ensures.len ∙ c.requires.re;
      before = c.fill_outside.ensures.before;
      behind = λ k le lt. c.fill_outside.ensures.behind k le (omega (arith, lt, c.requires.re));
      long_part = c.fill_streams.ensures.re_len;
      part = c.fill_streams.ensures.re;
    } in
    let im : Filled imaginary bias first last n codes c.fill_outside-2.new.out c.fill_streams.new.im = record {
      long = c.fill_outside-2.ensures.len ∙ c.requires.im;
      before = c.fill_outside-2.ensures.before;
      behind = λ k le lt. c.fill_outside-2.ensures.behind k le (omega (arith, lt, c.requires.im));
      long_part = c.fill_streams.ensures.im_len;
      part = c.fill_streams.ensures.im;
    } in
    let there : Filled there_of 0 first last n codes c.fill_outside-3.new.out c.fill_streams.new.there = record {
      long = c.fill_outside-3.ensures.len;
      before = c.fill_outside-3.ensures.before;
      behind = c.fill_outside-3.ensures.behind;
      long_part = c.fill_streams.ensures.there_len;
      part = c.fill_streams.ensures.there;
    } in
    record {
      re_len = length-filled codes first last n refl c.requires.room real bias _ _ real_zero re;
      im_len = length-filled codes first last n refl c.requires.room imaginary bias _ _ imaginary_zero im;
      there_len = length-filled codes first last n refl c.requires.room there_of 0 _ _ refl there;
      re = filled-at codes first last n refl c.requires.room real bias _ _ real_zero re;
      im = filled-at codes first last n refl c.requires.room imaginary bias _ _ imaginary_zero im;
      there = filled-at codes first last n refl c.requires.room there_of 0 _ _ refl there;
    }
