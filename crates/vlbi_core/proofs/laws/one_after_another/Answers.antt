use Rattle.std.proofs.Common.{◌∷◌}
use Rattle.vlbi_core.proofs.HistoryLemmas.{holds}
use Rattle.vlbi_core.proofs.laws.one_after_another.Goals as goal

pub returns : goal.returns
returns g c = λ files words job base first each later is.
    holds g.D.Disk.seen g.D.Disk.moment g.D.Disk.may_leave c.one_plan_for_job.ensures c.parts_have_the_plan.ensures files words job base (g.D.Disk.may_leave first.old (g.D.Disk.moment first.old)) each (first ∷ later) is
