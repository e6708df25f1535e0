use Rattle.std.proofs.Common.{rules, ◌≡◌, Some, true, false, is_some, ◌∙◌, arith, inr}
use Rattle.named_list.specs.Named.{named}
use Rattle.scan_list.specs.declared.scan.Chan.{Chan}
use Rattle.vex_schedule.specs.Values.{chan_in}
use Rattle.vex_schedule.proofs.Names.{beside}
use Rattle.vex_schedule.proofs.Reading.{chan_of-double, chan_of-new}
use Rattle.vex_schedule.proofs.setup.chan_of.Goals as goal

pub returns-then-has-clause-value : goal.returns-then-has-clause-value
returns-then-has-clause-value c = λ before same.
    let found : chan_in c.args.statement.now.values ≡ Some c.in-Some.chan = grind arith in
    let known : is_some (named c.args.ids.now c.in-Some.chan.id) ≡ true = search rules in
    inr (rw c.new-then-has.ensures (chan_of-double before c.args.statement.now c.in-Some.chan found (beside (λ (other : Chan). other.id) before c.args.ids.now c.in-Some.chan.id same ∙ known)))

pub returns-clause-value : goal.returns-clause-value
returns-clause-value c = λ before same.
    let found : chan_in c.args.statement.now.values ≡ Some c.in-Some.chan = grind arith in
    let known : is_some (named c.args.ids.now c.in-Some.chan.id) ≡ false = search rules in
    chan_of-new before c.args.statement.now c.in-Some.chan found (beside (λ (other : Chan). other.id) before c.args.ids.now c.in-Some.chan.id same ∙ known)
