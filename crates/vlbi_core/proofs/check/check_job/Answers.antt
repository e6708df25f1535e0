use Rattle.std.specs.Prelude.{option_copied, unwrap_or}
use Rattle.std.proofs.Common.{Result, sym, subst}
use Rattle.dev_traits.specs.Told.{WhereTold}
use Rattle.run_notes.specs.declared.refusal.Refusal.{Refusal}
use Rattle.run_ready.specs.Outcome.{PlanOf}
use Rattle.run_summary.specs.Summaries.{check_text}
use Rattle.run_notes.specs.Commands.{Tells}
use Rattle.vlbi_core.proofs.CommandLemmas.{check-tells}
use Rattle.vlbi_core.proofs.check.check_job.Goals as goal

pub returns-clause-tells : goal.returns-clause-tells
returns-clause-tells g c =
    let ready = c.in_ok-ready.ready in
    subst (λ (q : Result (Unit {0}) Refusal). WhereTold (g.F.Shelf.told c.args.shelf.now)
    (λ files. Tells (PlanOf files c.args.job.now (option_copied c.args.vex) c.args.epoch) (λ plan. check_text plan (unwrap_or c.args.epoch plan.epoch) files) (g.S.Sink.told c.args.out.now) (g.S.Sink.told c.write_check.new.out) q)) (sym c.written.ensures)
    (check-tells (g.F.Shelf.told c.args.shelf.now) c.args.job.now (option_copied c.args.vex) c.args.epoch ready.plan ready.epoch ready.recordings.items (g.S.Sink.told c.args.out.now) (g.S.Sink.told c.write_check.new.out) _ _
    c.write_check.ensures.0 c.write_check.result c.in_ok-ready.ensures.epoch c.in_ok-ready.ensures.plan c.in_ok-ready.ensures.recorded c.write_check.ensures.1 c.write_check.ensures.2)
