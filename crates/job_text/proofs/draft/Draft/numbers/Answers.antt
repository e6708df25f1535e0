use Rattle.std.proofs.Common.{◌≡◌, None, sym, ◌∙◌, rules}
use Rattle.job_text.specs.declared.numbers.Numbers.{Numbers}
use Rattle.job_text.proofs.JobLemmas.{job_by-no_lags, job_by-no_integration, job_by-no_epoch, job_by-not_whole, job_by-whole}
use Rattle.job_text.proofs.draft.Draft.numbers.Goals as goal

pub returns-in_err-lags-clause-value : goal.returns-in_err-lags-clause-value
returns-in_err-lags-clause-value c =
    let none : c.from_residual.result ≡ None = search rules in
    rw (← c.self.view_is, none) (sym (job_by-no_lags c.args.inline _ c.in_err-lags.was))

pub returns-in_err-integration-clause-value : goal.returns-in_err-integration-clause-value
returns-in_err-integration-clause-value c =
    let none : c.from_residual-in_err-integration.result ≡ None = search rules in
    rw (← c.self.view_is, none) (sym (job_by-no_integration c.args.inline _ c.in_ok-lags.lags c.in_ok-lags.was c.in_err-integration.was))

pub returns-in_err-epoch-clause-value : goal.returns-in_err-epoch-clause-value
returns-in_err-epoch-clause-value c =
    let none : c.from_residual-in_err-epoch.result ≡ None = search rules in
    rw (← c.self.view_is, none) (sym (job_by-no_epoch c.args.inline _ c.in_ok-lags.lags c.in_ok-integration.integration c.in_ok-lags.was c.in_ok-integration.was c.in_err-epoch.was))

pub returns-then-not-is_whole-clause-value : goal.returns-then-not-is_whole-clause-value
returns-then-not-is_whole-clause-value c =
    let numbers : Numbers = record { lags = c.in_ok-lags.lags; integration = c.in_ok-integration.integration; epoch = c.in_ok-epoch.epoch } in
    let answer = rw (← c.self.view_is) at c.is_whole.ensures.whole in
    let whole = sym answer ∙ c.if-not-is_whole.true in
    rw (← c.self.view_is) (sym (job_by-not_whole c.args.inline _ numbers c.in_ok-lags.was c.in_ok-integration.was c.in_ok-epoch.was whole))

pub returns-clause-value : goal.returns-clause-value
returns-clause-value c =
    let numbers : Numbers = record { lags = c.in_ok-lags.lags; integration = c.in_ok-integration.integration; epoch = c.in_ok-epoch.epoch } in
    let answer = rw (← c.self.view_is) at c.is_whole.ensures.whole in
    let whole = sym answer ∙ c.if-not-is_whole.false in
    rw (← c.self.view_is) (sym (job_by-whole c.args.inline _ numbers c.in_ok-lags.was c.in_ok-integration.was c.in_ok-epoch.was whole))
