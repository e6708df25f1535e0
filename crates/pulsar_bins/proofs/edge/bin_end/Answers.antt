use Rattle.std.proofs.Common.{◌<ℤ◌, ◌≤ℤ◌, arith}
use Rattle.std.proofs.lemmas.Int.{ints}
use Rattle.pulsar_bins.proofs.EdgeLemmas.{same-rising, same-falling}
use Rattle.pulsar_bins.proofs.edge.bin_end.Goals as goal

pub returns-then-line-clause-same : goal.returns-then-line-clause-same
returns-then-line-clause-same c n p q =
    let line = c.args.line.now in
    let phase = c.delay-phase.ensures in
    let rises : line.first <ℤ line.next = omega (arith, ints) in
    same-rising c.args.count line.first line.next c.delay-phase.result c.next_phase.result line.knot c.args.from n line.some phase.bound phase.value p
    rises c.next_phase.ensures.after c.next_phase.ensures.near c.next_phase.ensures.same (c.rising_end.ensures.before n q)

pub returns-else-line-clause-same : goal.returns-else-line-clause-same
returns-else-line-clause-same c n p q =
    let line = c.args.line.now in
    let phase = c.delay-phase.ensures in
    let falls : line.next ≤ℤ line.first = omega (arith, ints) in
    same-falling c.args.count line.first line.next c.delay-phase.result c.first_phase.result line.knot c.args.from n line.some phase.bound phase.value p
    falls c.first_phase.ensures.begun c.first_phase.ensures.near c.first_phase.ensures.same (c.falling_end.ensures.behind n q)
