use Rattle.std.proofs.Common.{rules, ◌≡◌, Some, true, false, is_some, ◌∙◌, arith, inr}
use Rattle.named_list.specs.Named.{named}
use Rattle.vex_schedule.specs.declared.stay.Stay.{Stay}
use Rattle.vex_schedule.specs.Values.{stay_in}
use Rattle.vex_schedule.specs.Schedule.{is_in_order}
use Rattle.vex_schedule.proofs.Names.{beside}
use Rattle.vex_schedule.proofs.Reading.{stay_of-double, stay_of-range, stay_of-new}
use Rattle.vex_schedule.proofs.stay.stay_of.Goals as goal

pub returns-then-has-clause-value : goal.returns-then-has-clause-value
returns-then-has-clause-value c = λ before same.
    let found : stay_in c.args.statement.now.values ≡ Some c.in-Some.stay = grind arith in
    let known : is_some (named c.args.keys.now c.in-Some.stay.key) ≡ true = search rules in
    inr (rw c.new-then-has.ensures (stay_of-double before c.args.statement.now c.in-Some.stay found (beside (λ (other : Stay). other.key) before c.args.keys.now c.in-Some.stay.key same ∙ known)))

pub returns-then-not-is_in_order-clause-value : goal.returns-then-not-is_in_order-clause-value
returns-then-not-is_in_order-clause-value c = λ before same.
    let found : stay_in c.args.statement.now.values ≡ Some c.in-Some.stay = grind arith in
    let known : is_some (named c.args.keys.now c.in-Some.stay.key) ≡ false = search rules in
    let order : is_in_order c.in-Some.stay ≡ false = search rules in
    inr (rw c.new-then-not-is_in_order.ensures (stay_of-range before c.args.statement.now c.in-Some.stay found (beside (λ (other : Stay). other.key) before c.args.keys.now c.in-Some.stay.key same ∙ known) order))

pub returns-clause-value : goal.returns-clause-value
returns-clause-value c = λ before same.
    let found : stay_in c.args.statement.now.values ≡ Some c.in-Some.stay = grind arith in
    let known : is_some (named c.args.keys.now c.in-Some.stay.key) ≡ false = search rules in
    let order : is_in_order c.in-Some.stay ≡ true = search rules in
    stay_of-new before c.args.statement.now c.in-Some.stay found (beside (λ (other : Stay). other.key) before c.args.keys.now c.in-Some.stay.key same ∙ known) order
