use Rattle.std.proofs.Common.{get_or, arith}
use Rattle.station_stream.proofs.TakenLemmas.{value_of-taken}
use Rattle.station_stream.proofs.turned.turn_codes.Goals as goal

pub returns-then-direction-eq0 : goal.returns-then-direction-eq0
returns-then-direction-eq0 c = λ k level h taken.
    value_of-taken (get_or c.args.codes.now k 0) c.args.direction level (omega arith) taken

pub returns : goal.returns
returns c = λ k level h taken.
    c.loop-code.invariant.turned k level (omega (arith, h, c.loop-code-test.false)) taken
