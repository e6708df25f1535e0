use Rattle.std.specs.Prelude.{option_copied}
use Rattle.std.proofs.Common.{◌<◌, ◌^◌, ℕ, List, length, sym, subst}
use Rattle.std.proofs.lemmas.Result.{err_from_is_err_and}
use Rattle.run_ready.proofs.ToldLemmas.{WhereTold-moved}
use Rattle.run_ready.proofs.StepLemmas.{IsOfFiles-texts}
use Rattle.run_part.proofs.OutcomeLemmas.{job-refused, end-refused, recordings-refused}
use Rattle.run_part.proofs.PartLemmas.{length-shard_of}
use Rattle.run_part.proofs.part.prepare_part.Goals as goal

pub returns-in_err-joined-clause-cause : goal.returns-in_err-joined-clause-cause
returns-in_err-joined-clause-cause g c =
    let p = err_from_is_err_and c.from_residual.result c.from_residual.ensures.1 in
    rw (p.1, p.2)
    (job-refused c.args.job.now (option_copied c.args.vex) c.args.epoch c.args.to c.in_err-joined.field-0.0 c.in_err-joined.ensures.stage
    (g.F.Shelf.told c.args.shelf.now) c.in_err-joined.ensures.cause)

pub returns-in_err-within_job-clause-cause : goal.returns-in_err-within_job-clause-cause
returns-in_err-within_job-clause-cause g c =
    let p = err_from_is_err_and c.from_residual-in_err-within_job.result c.from_residual-in_err-within_job.ensures.1 in
    rw (p.1, p.2)
    (end-refused c.args.job.now (option_copied c.args.vex) c.args.epoch c.args.to c.in_err-within_job.field-0.0
    (IsOfFiles-texts c.in_err-within_job.field-0.0 c.in_err-within_job.ensures.stage)
    (g.F.Shelf.told c.args.shelf.now) c.in_ok-joined.joined.plan c.in_ok-joined.ensures.plan c.in_err-within_job.ensures.cause)

pub returns-in_err-ready-clause-cause : goal.returns-in_err-ready-clause-cause
returns-in_err-ready-clause-cause g c =
    let told = g.F.Shelf.told in
    let p = err_from_is_err_and c.from_residual-in_err-ready.result c.from_residual-in_err-ready.ensures.1 in
    rw (p.1, p.2)
    (recordings-refused c.args.job.now (option_copied c.args.vex) c.args.epoch c.args.to c.in_err-ready.field-0.0 c.in_err-ready.ensures.stage
    (told c.args.shelf.now) c.in_ok-joined.joined.plan c.in_ok-joined.ensures.plan c.in_ok-within_job.ensures.within
    (WhereTold-moved (told c.args.shelf.now) (told c.join.new.shelf) _ c.join.ensures.same c.in_err-ready.ensures.due))

pub returns-clause-short : goal.returns-clause-short
returns-clause-short g c =
    subst (λ (id : List ℕ). length id < 2 ^ 62) (sym c.in_ok-identity.ensures)
    (length-shard_of c.in_ok-ready.ready.identity c.args.from c.args.to c.in_ok-ready.ready.short)
