use Rattle.std.proofs.Common.{arith}
use Rattle.value_codes.proofs.VectorLemmas.{fields-inside, put-pairs}
use Rattle.value_codes.proofs.take.put_two.Goals as goal

pub swizzle-first : goal.swizzle-first
swizzle-first c = fields-inside c.args.fields c.requires.long c.requires.below

pub swizzle-second : goal.swizzle-second
swizzle-second c = fields-inside c.args.fields c.requires.long c.requires.below

pub returns : goal.returns
returns c i h =
    let a = c.args in
    put-pairs a.table c.table_behind.result a.fields a.width c.requires.long c.requires.below c.table_behind.ensures.lanes c.requires.alike
    a.codes.now c.requires.codes i (omega (arith, h, c.requires.codes))
