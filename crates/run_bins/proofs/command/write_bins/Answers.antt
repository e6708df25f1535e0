use Rattle.std.specs.Prelude.{option_copied}
use Rattle.std.proofs.Common.{◌≡◌, refl}
use Rattle.std.proofs.lemmas.Result.{err_from_is_err_and, IfErr-weaker}
use Rattle.run_notes.proofs.CommandLemmas.{verdict-refused, verdict-written, stage-output}
use Rattle.run_ready.proofs.TellLemmas.{tells-refused, stage-files}
use Rattle.run_ready.proofs.ToldLemmas.{WhereTold-moved}
use Rattle.run_bins.specs.Jobs.{plan_of}
use Rattle.run_bins.specs.Texts.{BinPlan, bin_output}
use Rattle.run_bins.specs.Outcome.{BinsOf}
use Rattle.run_bins.proofs.OutcomeLemmas.{handed-on, tells-written}
use Rattle.run_bins.proofs.command.write_bins.Goals as goal

pub returns-in_err-binned-clause-tells : goal.returns-in_err-binned-clause-tells
returns-in_err-binned-clause-tells g c =
    let p = err_from_is_err_and c.from_residual.result c.from_residual.ensures.1 in
    rw (p.1, p.2)
    (tells-refused (g.F.Shelf.told c.args.shelf.now) (λ files. BinsOf files c.args.job.now (option_copied c.args.vex) c.args.phase.now)
    (λ files (x : BinPlan). bin_output x files) (g.S.Sink.told c.args.out.now) c.in_err-binned.field-0.0 c.in_err-binned.ensures.stage c.in_err-binned.ensures.cause)

pub returns-in_err-binned-clause-nothing : goal.returns-in_err-binned-clause-nothing
returns-in_err-binned-clause-nothing g c = handed-on _ _ c.from_residual.ensures.1 (verdict-refused c.in_err-binned.field-0.0 _ refl)

pub returns-in_err-binned-clause-stage : goal.returns-in_err-binned-clause-stage
returns-in_err-binned-clause-stage g c = handed-on _ _ c.from_residual.ensures.1 (stage-files c.in_err-binned.field-0.0 c.in_err-binned.ensures.stage)

pub returns-clause-tells : goal.returns-clause-tells
returns-clause-tells g c =
    let told = g.F.Shelf.told in
    tells-written (told c.args.shelf.now) (λ files. BinsOf files c.args.job.now (option_copied c.args.vex) c.args.phase.now)
    (plan_of c.in_ok-binned.binned) (g.S.Sink.told c.args.out.now) (g.S.Sink.told c.write_job.new.out) c.write_job.result
    c.in_ok-binned.ensures.plan
    (WhereTold-moved (told c.args.shelf.now) (told c.load_job.new.shelf) _ c.load_job.ensures.same c.write_job.ensures.written)
    c.write_job.ensures.stage

pub returns-clause-nothing : goal.returns-clause-nothing
returns-clause-nothing g c =
    IfErr-weaker c.write_job.result _ _ (λ r stage. verdict-written r (g.S.Sink.told c.write_job.new.out ≡ g.S.Sink.told c.args.out.now) stage) c.write_job.ensures.stage

pub returns-clause-stage : goal.returns-clause-stage
returns-clause-stage g c = IfErr-weaker c.write_job.result _ _ stage-output c.write_job.ensures.stage
