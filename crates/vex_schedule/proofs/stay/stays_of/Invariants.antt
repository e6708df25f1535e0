use Rattle.std.proofs.Common.{length, codes}
use Rattle.vex_schedule.specs.declared.stay.Stay.{Stay}
use Rattle.vex_schedule.specs.Sound.{IsStay}
use Rattle.vex_schedule.specs.Schedule.{stay_of, stays_of}
use Rattle.vex_schedule.proofs.Names.{AreGiven}
use Rattle.vex_schedule.proofs.stay.stays_of.Given as goal

abbrev pub invariant-loop-statement : goal.invariant-loop-statement
invariant-loop-statement l = AreGiven stay_of (λ (stay : Stay). stay.key) IsStay (codes "station") (stays_of l.scan) l.keys l.rest l.stays.items

abbrev pub decreases-loop-statement : goal.decreases-loop-statement
decreases-loop-statement l = length l.rest
