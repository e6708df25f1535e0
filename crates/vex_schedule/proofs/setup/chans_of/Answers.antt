use Rattle.std.proofs.Common.{rules, codes}
use Rattle.scan_list.specs.declared.scan.Chan.{Chan}
use Rattle.scan_list.specs.Sound.{IsChan}
use Rattle.vex_schedule.specs.Schedule.{chan_of, chans_of}
use Rattle.vex_schedule.proofs.Names.{given-more}
use Rattle.vex_schedule.proofs.setup.chans_of.Goals as goal

pub loop-statement-preserved : goal.loop-statement-preserved
loop-statement-preserved c =
    given-more chan_of (λ (chan : Chan). chan.id) IsChan (codes "chan_def") (chans_of c.args.setup.now) c.loop-statement.ids c.put.new.self tt c.loop-statement.rest.now c.in-Some.behind.now
    c.in-Some.statement.now c.loop-statement.chans.items c.push.new.self.items c.in_ok-chan.chan c.loop-statement.invariant (search rules)
    (c.in_ok-chan.ensures.value c.loop-statement.chans.items c.loop-statement.invariant.beside) c.in_ok-chan.ensures.sound c.in_ok-chan.ensures.new (search rules) c.in_ok-push.ensures.items
