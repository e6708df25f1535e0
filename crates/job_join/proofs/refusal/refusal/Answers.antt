use Rattle.std.proofs.Common.{◌≡◌, ◌<◌, ℕ, false, is_some, ap, sym, ◌∙◌, subst}
use Rattle.std.specs.Option.{option_or}
use Rattle.job_join.specs.declared.joining.Joining.{Joining}
use Rattle.job_join.specs.Joining.{scans_of, early_of, late_of}
use Rattle.job_join.proofs.MeasuresLemmas.{or-first, or-second}
use Rattle.job_join.proofs.Ranges.{rate_of-known}
use Rattle.job_join.proofs.RefusalLemmas.{refusal_of-parts, early_of-known}
use Rattle.job_join.proofs.refusal.refusal.Goals as goal

pub returns-then-is_some : goal.returns-then-is_some
returns-then-is_some c =
    let j : Joining = c.args.j.now in
    or-first c.early-early.result (late_of j.job.now c.args.epoch (scans_of j)) (sym c.is_some.ensures ∙ c.if-is_some.true)
    ∙ ap (λ o. option_or o (late_of j.job.now c.args.epoch (scans_of j))) c.early-early.ensures ∙ refusal_of-parts j.job.now c.args.epoch (scans_of j)

pub late-requires-clause-rate : goal.late-requires-clause-rate
late-requires-clause-rate c =
    let j : Joining = c.args.j.now in
    let none : is_some (early_of j.job.now (scans_of j)) ≡ false = ap is_some (sym c.early-early.ensures) ∙ sym c.is_some.ensures ∙ c.if-is_some.false in
    subst (λ (rate : ℕ). 0 < rate) (sym c.requires.joining.rate) (rate_of-known j.job.now (scans_of j) c.requires.joining.job c.requires.scans (early_of-known j.job.now (scans_of j) none))

pub returns : goal.returns
returns c =
    let j : Joining = c.args.j.now in
    or-second c.early-early.result c.late.result (sym c.is_some.ensures ∙ c.if-is_some.false)
    ∙ ap (λ o. option_or o c.late.result) c.early-early.ensures ∙ ap (option_or (early_of j.job.now (scans_of j))) c.late.ensures ∙ refusal_of-parts j.job.now c.args.epoch (scans_of j)
