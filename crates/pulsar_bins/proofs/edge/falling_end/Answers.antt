use Rattle.std.proofs.Common.{◌≡◌, ◌*◌, ◌≤◌, pos, ◌-ℤ◌, arith}
use Rattle.std.proofs.lemmas.Int.{ints}
use Rattle.pulsar_bins.proofs.EdgeLemmas.{falling-behind, behind-falling}
use Rattle.pulsar_bins.proofs.edge.falling_end.Goals as goal

pub end_below-requires-clause-begun : goal.end_below-requires-clause-begun
end_below-requires-clause-begun c =
    let line = c.args.line.now in
    let fall : pos c.gap-slope.result ≡ line.first -ℤ line.next = omega (arith, ints, c.gap-slope.ensures) in
    let gap : pos c.gap.result ≡ line.first -ℤ c.args.edge = omega (arith, ints, c.ranges.edge, c.gap.ensures) in
    let within = behind-falling line.first line.next c.args.edge c.gap-slope.result c.gap.result line.knot c.args.from line.some fall gap c.requires.begun in
    omega (arith, c.over_knot.ensures.value, within)

pub returns-clause-behind : goal.returns-clause-behind
returns-clause-behind c n p =
    let line = c.args.line.now in
    let fall : pos c.gap-slope.result ≡ line.first -ℤ line.next = omega (arith, ints, c.gap-slope.ensures) in
    let gap : pos c.gap.result ≡ line.first -ℤ c.args.edge = omega (arith, ints, c.ranges.edge, c.gap.ensures) in
    let within : c.gap-slope.result * n ≤ c.gap.result * line.knot = omega (arith, c.over_knot.ensures.value, c.end_below.ensures.below n p) in
    falling-behind line.first line.next c.args.edge c.gap-slope.result c.gap.result line.knot n line.some fall gap within
