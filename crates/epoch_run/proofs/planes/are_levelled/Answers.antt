use Rattle.std.proofs.Common.{subst, arith}
use Rattle.std.proofs.lemmas.List.{take_all}
use Rattle.std.proofs.Common.{All}
use Rattle.epoch_run.specs.Levelled.{IsLevelled}
use Rattle.epoch_run.proofs.Streams.{AllLevelled-streams}
use Rattle.epoch_run.proofs.planes.are_levelled.Goals as goal

pub returns : goal.returns
returns c =
    AllLevelled-streams c.args.streams.now
    (subst (All IsLevelled) (take_all c.loop-stream.stream-index c.args.streams.now (omega arith)) c.loop-stream.invariant)
