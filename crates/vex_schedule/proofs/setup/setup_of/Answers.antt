use Rattle.std.proofs.Common.{rules, ◌≡◌, ◌∙◌, Some, Ok, filter, arith}
use Rattle.vex_schedule.specs.Statements.{only, is_setup}
use Rattle.vex_schedule.specs.Values.{word_at}
use Rattle.vex_schedule.proofs.Setups.{setup_of-through}
use Rattle.vex_schedule.proofs.setup.setup_of.Goals as goal

pub returns : goal.returns
returns c =
    let ref = c.in_ok-statement.statement.now in
    let one : Ok ref ≡ only c.args.mode.now.at (filter (is_setup c.args.key.now) c.args.mode.now.statements) = search rules in
    let word : word_at ref.values 0 ≡ Some c.in_ok-name.name.now = grind arith in
    c.kept.ensures
    ∙ setup_of-through c.args.file.now c.args.mode.now c.args.key.now ref c.in_ok-name.name.now c.args.setups.now c.in_ok-place.place c.index-setups-place.result
    one word c.requires.setups (search rules) c.index-setups-place.is (search rules)
