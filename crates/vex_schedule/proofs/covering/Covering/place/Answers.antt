use Rattle.std.proofs.Common.{ℕ, List, length, subst, sym, ◌∙◌}
use Rattle.vex_reader.specs.declared.file.Statement.{Statement}
use Rattle.vex_schedule.specs.declared.covering.Found.{Found}
use Rattle.vex_schedule.specs.Covering.{covers_each, covers_by, IsFound}
use Rattle.vex_schedule.proofs.Coverings.{setup-each, setup-by_key}
use Rattle.vex_schedule.proofs.covering.Covering.place.Goals as goal

abbrev Each : List Statement → Found → Type 0
Each xs f = IsFound covers_each xs (length xs) f

abbrev ByKey : List ℕ → List Statement → Found → Type 0
ByKey key xs f = IsFound (covers_by key) xs (length xs) f

pub returns-in-Once-Nowhere : goal.returns-in-Once-Nowhere
returns-in-Once-Nowhere c =
    setup-each c.args.key.now c.args.statements.now c.in-Once-Nowhere.i (subst (Each c.args.statements.now) c.in-Once-Nowhere.is-0 c.requires.each) (subst (ByKey c.args.key.now c.args.statements.now) (sym c.found_in.ensures ∙ c.in-Once-Nowhere.is-1) (c.requires.by_key c.args.key.now))

pub returns-in-Nowhere-Once : goal.returns-in-Nowhere-Once
returns-in-Nowhere-Once c =
    setup-by_key c.args.key.now c.args.statements.now c.in-Nowhere-Once.i (subst (Each c.args.statements.now) c.in-Nowhere-Once.is-0 c.requires.each) (subst (ByKey c.args.key.now c.args.statements.now) (sym c.found_in.ensures ∙ c.in-Nowhere-Once.is-1) (c.requires.by_key c.args.key.now))
