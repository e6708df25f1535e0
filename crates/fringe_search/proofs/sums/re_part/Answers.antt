use Rattle.std.proofs.Common.{arith}
use Rattle.std.proofs.lemmas.Int.{ints}
use Rattle.fringe_search.proofs.Bounds.{scaled_is}
use Rattle.fringe_search.proofs.sums.re_part.Goals as goal

pub returns-clause-value : goal.returns-clause-value
returns-clause-value c =
    let one = scaled_is c.args.re _ _ c.ranges.re c.scaled.ensures.value c.scaled.ensures.within in
    let two = scaled_is c.args.im _ _ c.ranges.im c.scaled-2.ensures.value c.scaled-2.ensures.within in
    rw (← one.0, ← two.0) (omega (arith, ints, one.1, two.1, c.requires.small))
