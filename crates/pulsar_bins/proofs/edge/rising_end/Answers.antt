use Rattle.std.proofs.Common.{◌≡◌, pos, ◌-ℤ◌, arith}
use Rattle.std.proofs.lemmas.Int.{ints}
use Rattle.pulsar_bins.proofs.EdgeLemmas.{rising-before, before-rising}
use Rattle.pulsar_bins.proofs.edge.rising_end.Goals as goal

pub end_below-requires-clause-begun : goal.end_below-requires-clause-begun
end_below-requires-clause-begun c =
    let line = c.args.line.now in
    let rise : pos c.gap-slope.result ≡ line.next -ℤ line.first = omega (arith, ints, c.gap-slope.ensures) in
    let gap : pos c.gap.result ≡ c.args.edge -ℤ line.first = omega (arith, ints, c.ranges.edge, c.gap.ensures) in
    rw c.over_knot.ensures.value
    (before-rising line.first line.next c.args.edge c.gap-slope.result c.gap.result line.knot c.args.from line.some rise gap c.requires.begun)

pub returns-clause-before : goal.returns-clause-before
returns-clause-before c n p =
    let line = c.args.line.now in
    let rise : pos c.gap-slope.result ≡ line.next -ℤ line.first = omega (arith, ints, c.gap-slope.ensures) in
    let gap : pos c.gap.result ≡ c.args.edge -ℤ line.first = omega (arith, ints, c.ranges.edge, c.gap.ensures) in
    let less = rw c.over_knot.ensures.value at (c.end_below.ensures.below n p) in
    rising-before line.first line.next c.args.edge c.gap-slope.result c.gap.result line.knot n line.some rise gap less
