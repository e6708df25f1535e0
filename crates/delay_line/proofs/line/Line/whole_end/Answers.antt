use Rattle.std.proofs.Common.{w64, FitsSigned, arith}
use Rattle.std.proofs.lemmas.Int.{ints, to_z-of_z}
use Rattle.corr_model.specs.Delay.{nearest}
use Rattle.delay_line.proofs.Stretches.{stretch_of_exit}
use Rattle.delay_line.proofs.line.Line.whole_end.Goals as goal

pub returns : goal.returns
returns c =
    let x = c.args in
    let line = x.self.now in
    let fits : FitsSigned w64 c.delay.result = omega (arith, ints, c.delay.ensures.bound) in
    let is = c.delay.ensures.value in
    let interval = simp to_z-of_z at c.whole_interval.ensures.interval in
    let exit = c.leaves.ensures in
    stretch_of_exit nearest line.first line.next c.delay.result _ _ line.knot x.from x.to c.leaves.result line.bound_first line.bound_next c.requires.within is interval exit
