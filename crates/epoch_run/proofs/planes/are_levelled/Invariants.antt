use Rattle.std.proofs.Common.{All, take}
use Rattle.epoch_run.specs.Levelled.{IsLevelled}
use Rattle.epoch_run.proofs.planes.are_levelled.Given as goal

abbrev pub invariant-loop-stream : goal.invariant-loop-stream
invariant-loop-stream l = All IsLevelled (take l.stream-index l.streams)
