use Rattle.std.specs.Prelude.{option_copied, option_map}
use Rattle.std.proofs.Common.{◌≡◌, ◌∙◌, ℕ, List, None, subst}
use Rattle.std.proofs.lemmas.Result.{err_from_is_err_and}
use Rattle.dev_traits.specs.Told.{WhereTold}
use Rattle.journal_image.specs.Image.{KeptEpoch}
use Rattle.shard_merge.specs.declared.shard.Shard.{Shard}
use Rattle.shard_merge.specs.Reading.{AreReadFrom}
use Rattle.shard_merge.specs.Verdict.{verdict}
use Rattle.run_ready.specs.Due.{IsDue}
use Rattle.run_ready.proofs.ToldLemmas.{WhereTold-moved}
use Rattle.run_merge.specs.Outcome.{merge_answer}
use Rattle.run_merge.proofs.OutcomeLemmas.{surveyed, job-refused, size-refused, shard-refused, verdict-refused, merge-done}
use Rattle.run_merge.proofs.load.load_merge.Goals as goal

pub returns-in_err-survey-clause-cause : goal.returns-in_err-survey-clause-cause
returns-in_err-survey-clause-cause g c =
    let p = err_from_is_err_and c.from_residual.result c.from_residual.ensures.1 in
    rw (p.1, p.2)
    (job-refused c.args.job.now (option_copied c.args.vex) c.args.names.now c.in_err-survey.field-0.0 c.in_err-survey.ensures.stage
    (g.F.Shelf.told c.args.shelf.now) c.in_err-survey.ensures.cause)

pub returns-in_err-sizes-clause-cause : goal.returns-in_err-sizes-clause-cause
returns-in_err-sizes-clause-cause g c =
    let told = g.F.Shelf.told in
    let s = c.in_ok-survey.survey in
    let p = err_from_is_err_and c.from_residual-in_err-sizes.result c.from_residual-in_err-sizes.ensures.1 in
    rw (p.1, p.2)
    (size-refused c.args.job.now (option_copied c.args.vex) c.args.names.now c.in_err-sizes.field-0.0 c.in_err-sizes.ensures.stage
    s.plan s.identity s.epochs (told c.args.shelf.now)
    (surveyed c.args.job.now (option_copied c.args.vex) s.plan s.identity s.epochs (told c.args.shelf.now)
    c.in_ok-survey.ensures.plan c.in_ok-survey.ensures.identity c.plan-ranges.ensures.ranges s.few s.cut)
    (WhereTold-moved (told c.args.shelf.now) (told c.survey.new.shelf) _ c.survey.ensures.same c.in_err-sizes.ensures.due))

pub returns-in_err-shards-clause-cause : goal.returns-in_err-shards-clause-cause
returns-in_err-shards-clause-cause g c =
    let told = g.F.Shelf.told in
    let s = c.in_ok-survey.survey in
    let p = err_from_is_err_and c.from_residual-in_err-shards.result c.from_residual-in_err-shards.ensures.1 in
    rw (p.1, p.2)
    (shard-refused c.args.job.now (option_copied c.args.vex) c.args.names.now c.in_err-shards.field-0.0 c.in_err-shards.ensures.stage
    s.plan s.identity s.epochs (told c.args.shelf.now)
    (surveyed c.args.job.now (option_copied c.args.vex) s.plan s.identity s.epochs (told c.args.shelf.now)
    c.in_ok-survey.ensures.plan c.in_ok-survey.ensures.identity c.plan-ranges.ensures.ranges s.few s.cut)
    (WhereTold-moved (told c.args.shelf.now) (told c.survey.new.shelf) _ c.survey.ensures.same c.in_ok-sizes.ensures.there)
    (WhereTold-moved (told c.args.shelf.now) (told c.sizes_of_files.new.shelf) _ (c.sizes_of_files.ensures.same ∙ c.survey.ensures.same)
    c.in_err-shards.ensures.cause))

pub returns-in_err-compared-clause-cause : goal.returns-in_err-compared-clause-cause
returns-in_err-compared-clause-cause g c =
    let told = g.F.Shelf.told in
    let s = c.in_ok-survey.survey in
    let r = c.in_err-compared.field-0.0 in
    let p = err_from_is_err_and c.from_residual-in_err-compared.result c.from_residual-in_err-compared.ensures.1 in
    rw (p.1, p.2)
    (verdict-refused c.args.job.now (option_copied c.args.vex) c.args.names.now r c.in_err-compared.ensures.stage
    s.plan s.identity s.epochs (told c.args.shelf.now) c.in_ok-shards.shards.items
    (surveyed c.args.job.now (option_copied c.args.vex) s.plan s.identity s.epochs (told c.args.shelf.now)
    c.in_ok-survey.ensures.plan c.in_ok-survey.ensures.identity c.plan-ranges.ensures.ranges s.few s.cut)
    (WhereTold-moved (told c.args.shelf.now) (told c.survey.new.shelf) _ c.survey.ensures.same c.in_ok-sizes.ensures.there)
    (WhereTold-moved (told c.args.shelf.now) (told c.sizes_of_files.new.shelf) _ (c.sizes_of_files.ensures.same ∙ c.survey.ensures.same)
    c.in_ok-shards.ensures.read)
    (WhereTold-moved (told c.args.shelf.now) (told c.read_shards.new.shelf) _
    (c.read_shards.ensures.same ∙ c.sizes_of_files.ensures.same ∙ c.survey.ensures.same)
    (subst
    (λ (shards : List Shard). WhereTold (told c.read_shards.new.shelf) (λ files. (id : List ℕ) (keeps : List (List KeptEpoch))
    → AreReadFrom files id s.epochs shards keeps → IsDue r (option_map merge_answer (verdict s.epochs keeps))))
    c.deref-2.ensures.value c.in_err-compared.ensures.due)))

pub returns-clause-merge : goal.returns-clause-merge
returns-clause-merge g c =
    let told = g.F.Shelf.told in
    let s = c.in_ok-survey.survey in
    merge-done c.args.job.now (option_copied c.args.vex) c.args.names.now (record { survey = s; shards = c.in_ok-shards.shards }) (told c.args.shelf.now)
    (surveyed c.args.job.now (option_copied c.args.vex) s.plan s.identity s.epochs (told c.args.shelf.now)
    c.in_ok-survey.ensures.plan c.in_ok-survey.ensures.identity c.plan-ranges.ensures.ranges s.few s.cut)
    (WhereTold-moved (told c.args.shelf.now) (told c.survey.new.shelf) _ c.survey.ensures.same c.in_ok-sizes.ensures.there)
    (WhereTold-moved (told c.args.shelf.now) (told c.sizes_of_files.new.shelf) _ (c.sizes_of_files.ensures.same ∙ c.survey.ensures.same)
    c.in_ok-shards.ensures.read)
    (WhereTold-moved (told c.args.shelf.now) (told c.read_shards.new.shelf) _
    (c.read_shards.ensures.same ∙ c.sizes_of_files.ensures.same ∙ c.survey.ensures.same)
    (subst
    (λ (shards : List Shard). WhereTold (told c.read_shards.new.shelf) (λ files. (id : List ℕ) (keeps : List (List KeptEpoch))
    → AreReadFrom files id s.epochs shards keeps → verdict s.epochs keeps ≡ None))
    c.deref-2.ensures.value c.in_ok-compared.ensures.together))
