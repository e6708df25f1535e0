use Rattle.station_stream.specs.FrameSlots.{IsRun}
use Rattle.station_stream.proofs.frame_run.run_len.Given as goal

abbrev pub invariant-loop-n : goal.invariant-loop-n
invariant-loop-n l = IsRun l.index l.part l.thread l.start l.i l.at l.size l.n
