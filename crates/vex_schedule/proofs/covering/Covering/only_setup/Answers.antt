use Rattle.std.proofs.Common.{List, length, subst, rules}
use Rattle.vex_reader.specs.declared.file.Statement.{Statement}
use Rattle.vex_schedule.specs.Statements.{is_setup}
use Rattle.vex_schedule.specs.Covering.{IsOnlyAt}
use Rattle.vex_schedule.proofs.Coverings.{only-at}
use Rattle.vex_schedule.proofs.covering.Covering.only_setup.Goals as goal

pub returns-in-Some : goal.returns-in-Some
returns-in-Some c =
    let test = is_setup c.args.key.now in
    let At : List Statement → Type 0 = λ xs. IsOnlyAt test xs (length xs) c.in-Some.i in
    only-at c.args.mode.now.at test c.args.mode.now.statements c.in-Some.i c.index-statements-i.result (subst At c.items-statements.ensures c.in-Some.ensures) (search rules)
