use Rattle.std.proofs.Common.{◌≡◌, ◌<◌, length, ap, sym, ◌∙◌, arith}
use Rattle.fringe_search.specs.Layout.{records_before}
use Rattle.fringe_search.proofs.Counting.{before_none, before_more, before_within}
use Rattle.fringe_search.proofs.series.records_before.Goals as goal

pub loop-i-init : goal.loop-i-init
loop-i-init c = sym (before_none c.args.head.now)

pub overflow_add-before : goal.overflow_add-before
overflow_add-before c =
    let within : c.loop-i.i < length c.args.head.now.scans = omega arith in
    omega (arith, before_within c.args.head.now c.loop-i.i within, c.loop-i.invariant, c.records.ensures)

pub loop-i-preserved : goal.loop-i-preserved
loop-i-preserved c =
    let within : c.loop-i.i < length c.args.head.now.scans = omega arith in
    omega (arith, before_more c.args.head.now c.loop-i.i within, c.loop-i.invariant, c.records.ensures)

pub returns : goal.returns
returns c =
    let all : c.loop-i.i ≡ c.args.scan = omega arith in
    c.loop-i.invariant ∙ ap (records_before c.args.head.now) all
