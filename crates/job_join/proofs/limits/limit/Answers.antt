use Rattle.std.proofs.Common.{refl, sym, ◌∙◌}
use Rattle.job_join.specs.declared.joining.Joining.{Joining}
use Rattle.job_join.specs.Joining.{scans_of}
use Rattle.job_join.proofs.MeasuresLemmas.{limit-parts, or-first, or-second}
use Rattle.job_join.proofs.limits.limit.Goals as goal

pub returns-then-is_some : goal.returns-then-is_some
returns-then-is_some c =
    let j : Joining = c.args.j.now in
    or-first c.counts-counts.result _ (sym c.is_some.ensures ∙ c.if-is_some.true)
    ∙ limit-parts j.job.now c.args.epoch (scans_of j) j.rate c.counts-counts.result _ _ c.requires.joining.rate c.counts-counts.ensures refl refl

pub returns-then-is_some-2 : goal.returns-then-is_some-2
returns-then-is_some-2 c =
    let j : Joining = c.args.j.now in
    or-first c.lengths-lengths.result _ (sym c.is_some-2.ensures ∙ c.if-is_some-2.true)
    ∙ or-second c.counts-counts.result _ (sym c.is_some.ensures ∙ c.if-is_some.false)
    ∙ limit-parts j.job.now c.args.epoch (scans_of j) j.rate c.counts-counts.result c.lengths-lengths.result _ c.requires.joining.rate c.counts-counts.ensures c.lengths-lengths.ensures refl

pub returns : goal.returns
returns c =
    let j : Joining = c.args.j.now in
    or-second c.lengths-lengths.result c.sizes.result (sym c.is_some-2.ensures ∙ c.if-is_some-2.false)
    ∙ or-second c.counts-counts.result _ (sym c.is_some.ensures ∙ c.if-is_some.false)
    ∙ limit-parts j.job.now c.args.epoch (scans_of j) j.rate c.counts-counts.result c.lengths-lengths.result c.sizes.result c.requires.joining.rate c.counts-counts.ensures c.lengths-lengths.ensures c.sizes.ensures
