use Rattle.std.proofs.lemmas.Result.{err_from_is_err_and}
use Rattle.std.proofs.Common.{ℕ, List, subst}
use Rattle.run_notes.specs.Refusals.{IsCause}
use Rattle.run_fringe.specs.Searched.{CheckOf}
use Rattle.run_fringe.proofs.SearchedLemmas.{IsOfFiles-verdict, told-check}
use Rattle.run_fringe.proofs.verdict.load_certified.Goals as goal

pub returns-in_err-check-clause-cause : goal.returns-in_err-check-clause-cause
returns-in_err-check-clause-cause g c =
    let told = g.F.Shelf.told in
    let p = err_from_is_err_and c.from_residual-in_err-check.result c.from_residual-in_err-check.ensures.1 in
    let r = c.in_err-check.field-0.0 in
    rw (p.1, p.2)
    (told-check (told c.args.shelf.now) (told c.load_records.new.shelf) c.args.file.now c.args.certificate.now c.in_ok-vis.vis c.in_ok-text.text.items r
    c.load_records.ensures.same (IsOfFiles-verdict r c.in_err-check.ensures.verdict) c.in_ok-vis.ensures.content c.in_ok-text.ensures.text
    (subst (λ (t : List ℕ). IsCause r (CheckOf c.in_ok-vis.vis t)) c.deref.ensures.value c.in_err-check.ensures.cause))
