use Rattle.std.proofs.Common.{◌<◌, ◌^◌, w64, FitsSigned, arith}
use Rattle.std.proofs.lemmas.Int.{ints, to_z-of_z}
use Rattle.corr_model.specs.Delay.{nearest}
use Rattle.delay_line.proofs.Intervals.{nearest_interval, interval_at}
use Rattle.delay_line.proofs.interval.whole_interval.Goals as goal

pub returns-clause-interval : goal.returns-clause-interval
returns-clause-interval c =
    let x = c.args.delay in
    let r = c.past_whole-past.result in
    let fits : FitsSigned w64 x = c.ranges.delay in
    let is = simp to_z-of_z at c.past_whole-past.ensures.value in
    let less : r < 2 ^ 32 = omega (arith, c.past_whole-past.ensures.bound) in
    interval_at nearest x _ _ c.around.result.least c.around.result.end (nearest_interval x r less is)
    (omega (arith, ints, c.around.ensures.least)) (omega (arith, ints, c.around.ensures.end))
