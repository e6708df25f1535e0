use Rattle.std.proofs.Common.{length, codes}
use Rattle.scan_list.specs.declared.scan.Chan.{Chan}
use Rattle.scan_list.specs.Sound.{IsChan}
use Rattle.vex_schedule.specs.Schedule.{chan_of, chans_of}
use Rattle.vex_schedule.proofs.Names.{AreGiven}
use Rattle.vex_schedule.proofs.setup.chans_of.Given as goal

abbrev pub invariant-loop-statement : goal.invariant-loop-statement
invariant-loop-statement l = AreGiven chan_of (λ (chan : Chan). chan.id) IsChan (codes "chan_def") (chans_of l.setup) l.ids l.rest l.chans.items

abbrev pub decreases-loop-statement : goal.decreases-loop-statement
decreases-loop-statement l = length l.rest
