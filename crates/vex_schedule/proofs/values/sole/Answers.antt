use Rattle.vex_schedule.proofs.Lists.{sole-one, sole-other}
use Rattle.vex_schedule.proofs.values.sole.Goals as goal

pub returns-then-things-eq1 : goal.returns-then-things-eq1
returns-then-things-eq1 g c = sole-one c.args.things.now c.index-things-0.result c.if-things-eq1.true c.index-things-0.is

pub returns-else-things-eq1 : goal.returns-else-things-eq1
returns-else-things-eq1 g c = sole-other c.args.things.now c.if-things-eq1.false
