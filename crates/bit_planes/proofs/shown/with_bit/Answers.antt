use Rattle.std.proofs.Common.{◌<◌, ◌∙◌}
use Rattle.bit_planes.proofs.Bits.{more-below, more-before, more-here, one_bit}
use Rattle.bit_planes.proofs.shown.with_bit.Goals as goal

pub returns-clause-below : goal.returns-clause-below
returns-clause-below c =
    let bit : c.bit_of.result < 2 = rw c.bit_of.ensures (one_bit c.args.bit) in
    more-below c.args.bits c.bit_of.result c.args.k c.requires.inside c.requires.below bit

pub returns-clause-before : goal.returns-clause-before
returns-clause-before c j h =
    let bit : c.bit_of.result < 2 = rw c.bit_of.ensures (one_bit c.args.bit) in
    more-before c.args.bits c.bit_of.result c.args.k j c.requires.inside c.requires.below bit h

pub returns-clause-here : goal.returns-clause-here
returns-clause-here c =
    let bit : c.bit_of.result < 2 = rw c.bit_of.ensures (one_bit c.args.bit) in
    more-here c.args.bits c.bit_of.result c.args.k c.requires.inside c.requires.below bit ∙ c.bit_of.ensures
