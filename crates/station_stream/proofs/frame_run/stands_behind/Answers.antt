use Rattle.std.proofs.Common.{arith}
use Rattle.station_stream.proofs.ThreadLemmas.{stands-ahead}
use Rattle.station_stream.proofs.frame_run.stands_behind.Goals as goal

pub returns : goal.returns
returns c = stands-ahead _ c.in-Some.found c.args.at c.args.ahead c.in-Some.is (omega arith) (omega arith)
