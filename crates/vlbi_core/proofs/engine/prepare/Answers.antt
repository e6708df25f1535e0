use Rattle.std.specs.Prelude.{IfOk, IfErr}
use Rattle.std.proofs.Common.{◌≡◌, ℕ, List, Option, Ok, sym}
use Rattle.dev_traits.specs.Told.{WhereTold}
use Rattle.run_notes.specs.Refusals.{IsCause}
use Rattle.run_ready.specs.Outcome.{PlanOf}
use Rattle.run_ready.specs.Identities.{identity_under}
use Rattle.vlbi_core.proofs.EngineLemmas.{by-names}
use Rattle.vlbi_core.proofs.engine.prepare.Goals as goal

pub returns-clause-plan : goal.returns-clause-plan
returns-clause-plan g c = rw (sym c.epoch_of.ensures.asked)
    (by-names (λ (job : List ℕ) (vex : Option (List ℕ)). IfOk c.prepare.result (λ ready. WhereTold (g.F.Shelf.told c.args.shelf.now) (λ files. PlanOf files job vex c.epoch_of.result (Ok ready.plan))))
    _ _ _ c.job_of.ensures.name c.vex_of.ensures.name c.prepare.ensures.plan)

pub returns-clause-identity : goal.returns-clause-identity
returns-clause-identity g c =
    by-names (λ (job : List ℕ) (vex : Option (List ℕ)). IfOk c.prepare.result (λ ready. WhereTold (g.F.Shelf.told c.args.shelf.now) (λ files. ready.identity ≡ identity_under files job vex ready.plan)))
    _ _ _ c.job_of.ensures.name c.vex_of.ensures.name c.prepare.ensures.identity

pub returns-clause-cause : goal.returns-clause-cause
returns-clause-cause g c = rw (sym c.epoch_of.ensures.asked)
    (by-names (λ (job : List ℕ) (vex : Option (List ℕ)). IfErr c.prepare.result (λ r. WhereTold (g.F.Shelf.told c.args.shelf.now) (λ files. IsCause r (PlanOf files job vex c.epoch_of.result))))
    _ _ _ c.job_of.ensures.name c.vex_of.ensures.name c.prepare.ensures.cause)
