use Rattle.std.proofs.Common.{rules, codes}
use Rattle.vex_schedule.specs.declared.stay.Stay.{Stay}
use Rattle.vex_schedule.specs.Sound.{IsStay}
use Rattle.vex_schedule.specs.Schedule.{stay_of, stays_of}
use Rattle.vex_schedule.proofs.Names.{given-more}
use Rattle.vex_schedule.proofs.stay.stays_of.Goals as goal

pub loop-statement-preserved : goal.loop-statement-preserved
loop-statement-preserved c =
    given-more stay_of (λ (stay : Stay). stay.key) IsStay (codes "station") (stays_of c.args.scan.now) c.loop-statement.keys c.put.new.self tt c.loop-statement.rest.now c.in-Some.behind.now
    c.in-Some.statement.now c.loop-statement.stays.items c.push.new.self.items c.in_ok-stay.stay c.loop-statement.invariant (search rules)
    (c.in_ok-stay.ensures.value c.loop-statement.stays.items c.loop-statement.invariant.beside) c.in_ok-stay.ensures.sound c.in_ok-stay.ensures.new (search rules) c.in_ok-push.ensures.items
