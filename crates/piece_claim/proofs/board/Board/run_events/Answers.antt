use Rattle.std.proofs.Common.{◌∙◌, refl, subst}
use Rattle.std.proofs.lemmas.Result.{err_from_is_err_and}
use Rattle.piece_claim.specs.Invariant.{IsSound}
use Rattle.piece_claim.proofs.EventLaws.{Runs-more, stops}
use Rattle.piece_claim.proofs.board.Board.run_events.Goals as goal

pub loop-e-init : goal.loop-e-init
loop-e-init c = (refl, subst IsSound c.self.view_is c.self.invariant.sound, refl)

pub loop-e-preserved : goal.loop-e-preserved
loop-e-preserved c = (
  Runs-more c.args.self.now c.loop-e.self c.step.new.self c.args.list.now c.loop-e.e-index _ c.loop-e-test.true c.loop-e.invariant.0 c.in_ok-step.ensures.moved,
  c.step.ensures.sound,
  c.step.ensures.fixed ∙ c.loop-e.invariant.2,
)

pub returns-in_err-step-clause-refused : goal.returns-in_err-step-clause-refused
returns-in_err-step-clause-refused c =
    let p = err_from_is_err_and c.from_residual.result c.from_residual.ensures.1 in
    rw (p.1, p.2)
    (stops c.in_err-step.field-0.0 c.args.self.now c.loop-e.self c.step.new.self c.args.list.now c.loop-e.e-index _ c.loop-e-test.true c.loop-e.invariant.0 c.in_err-step.ensures.same c.in_err-step.ensures.refused)
