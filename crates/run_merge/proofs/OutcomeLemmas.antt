-- What the files of a job and its journals come to, step by step, and what the command tells of it.
use Rattle.std.specs.Prelude.{option_map, IfErr}
use Rattle.std.proofs.Common.{◌≡◌, ◌≤◌, ℕ, List, length, Option, Some, None, Result, Ok, sym, ap, subst}
use Rattle.corr_model.specs.Files.{Files}
use Rattle.dev_traits.specs.Told.{WhereTold}
use Rattle.piece_plan.specs.Epochs.{JobSizes}
use Rattle.job_plan.specs.declared.plan.Plan.{Plan}
use Rattle.job_plan.specs.Ranges.{IsPlan}
use Rattle.job_epochs.specs.Sizes.{sizes_of}
use Rattle.journal_image.specs.Image.{KeptEpoch}
use Rattle.vis_writer.specs.Writes.{Appended}
use Rattle.shard_merge.specs.declared.shard.Shard.{Shard}
use Rattle.shard_merge.specs.declared.fault.MergeFault.{MergeFault}
use Rattle.shard_merge.specs.Merged.{merged}
use Rattle.shard_merge.specs.Reading.{AreReadFrom}
use Rattle.shard_merge.specs.Verdict.{verdict}
use Rattle.run_notes.specs.declared.refusal.Refusal.{Refusal}
use Rattle.run_notes.specs.declared.refusal.Refusal.TheVariants.{Memory, Words, Due as DueRefusal, Other, Read, Journal, Write}
use Rattle.run_notes.specs.Answers.{Answer}
use Rattle.run_notes.specs.Refusals.{Outcomes, IsCause}
use Rattle.run_notes.specs.Commands.{Tells, IsOfOutput}
use Rattle.run_notes.proofs.CommandLemmas.{tells-appended}
use Rattle.run_ready.specs.Steps.{Is, Then, unless}
use Rattle.run_ready.specs.Due.{IsDue}
use Rattle.run_ready.specs.Sizes.{no_file_of}
use Rattle.run_ready.specs.Stage.{IsOfFiles}
use Rattle.run_ready.specs.Outcome.{SurveyOf}
use Rattle.run_ready.specs.Identities.{identity_under}
use Rattle.run_ready.proofs.StepLemmas.{IsCause-first, IsCause-next, IsCause-unless}
use Rattle.run_merge.specs.declared.job.MergeJob.{MergeJob}
use Rattle.run_merge.specs.Outcome.{Merge, merged_text, RangedOf, ShardsOf, merge_answer, MergeOf}
use Rattle.run_merge.specs.Shards.{AreShardsOf}
use Rattle.run_merge.specs.Jobs.{IsMergeOf}

-- ---- the job, the sizes, the journals, and whether they make the job

-- the outcomes behind the epochs that the journals keep, behind a plan whose journals are there, and behind a plan
abbrev pub verdict_behind : Plan → List (List KeptEpoch) → Outcomes Merge
verdict_behind within keeps = Is (unless (option_map merge_answer (verdict (sizes_of within) keeps)) (record { plan = within; keeps = keeps }))

abbrev pub shards_behind : Files → List ℕ → Option (List ℕ) → List (List ℕ) → Plan → Outcomes Merge
shards_behind files job vex names within = Then (ShardsOf files (identity_under files job vex within) (sizes_of within) names) (verdict_behind within)

abbrev pub sizes_behind : Files → List ℕ → Option (List ℕ) → List (List ℕ) → Plan → Outcomes Merge
sizes_behind files job vex names plan = Then (Is (unless (no_file_of files names) plan)) (shards_behind files job vex names)

-- a job that was surveyed: its plan, its identity, and what the plan is cut by
pub record IsSurveyed (files : Files) (job : List ℕ) (vex : Option (List ℕ)) (plan : Plan) (id : List ℕ) (epochs : JobSizes) : Type 0 where
  pub outcome : RangedOf files job vex (Ok plan)
  pub identity : id ≡ identity_under files job vex plan
  pub cut : epochs ≡ sizes_of plan

pub surveyed : (job : List ℕ) (vex : Option (List ℕ)) (plan : Plan) (id : List ℕ) (epochs : JobSizes) (told : Option Files)
    → WhereTold told (λ files. SurveyOf files job vex None (Ok plan)) → WhereTold told (λ files. id ≡ identity_under files job vex plan)
    → IsPlan plan → length plan.scans ≤ 8388608 → epochs ≡ sizes_of plan
    → WhereTold told (λ files. IsSurveyed files job vex plan id epochs)
surveyed job vex plan id epochs None is same ranges few cut = tt
surveyed job vex plan id epochs (Some files) is same ranges few cut =
    record { outcome = (is, record { ranges = ranges; few = few }); identity = same; cut = cut }

-- a cause of the survey
cause-ranged : (files : Files) (job : List ℕ) (vex : Option (List ℕ)) (r : Refusal) → IsOfFiles r → IsCause r (SurveyOf files job vex None)
    → IsCause r (RangedOf files job vex)
cause-ranged files job vex Memory stage cause = tt
cause-ranged files job vex (Words fault) stage cause = absurd stage
cause-ranged files job vex (DueRefusal due) stage cause = cause
cause-ranged files job vex (Other d) stage cause = absurd stage
cause-ranged files job vex Read stage cause = tt
cause-ranged files job vex (Journal kept) stage cause = absurd stage
cause-ranged files job vex Write stage cause = absurd stage

module _ (job : List ℕ) (vex : Option (List ℕ)) (names : List (List ℕ)) (r : Refusal) (stage : IsOfFiles r) where
  pub job-refused : (told : Option Files) → WhereTold told (λ files. IsCause r (SurveyOf files job vex None))
      → WhereTold told (λ files. IsCause r (MergeOf files job vex names))
  job-refused None cause = tt
  job-refused (Some files) cause =
      IsCause-first r (RangedOf files job vex) (sizes_behind files job vex names) stage (cause-ranged files job vex r stage cause)

  module _ (plan : Plan) (id : List ℕ) (epochs : JobSizes) where
    pub size-refused : (told : Option Files) → WhereTold told (λ files. IsSurveyed files job vex plan id epochs)
        → WhereTold told (λ files. IsDue r (no_file_of files names))
        → WhereTold told (λ files. IsCause r (MergeOf files job vex names))
    size-refused None is due = tt
    size-refused (Some files) is due =
        IsCause-next r (RangedOf files job vex) (sizes_behind files job vex names) plan stage is.outcome
        (IsCause-first r (Is (unless (no_file_of files names) plan)) (shards_behind files job vex names) stage
        (IsCause-unless r (no_file_of files names) plan due))

    -- behind journals that are there
    there : (files : Files) → IsSurveyed files job vex plan id epochs → no_file_of files names ≡ None
        → IsCause r (shards_behind files job vex names plan) → IsCause r (MergeOf files job vex names)
    there files is none cause =
        IsCause-next r (RangedOf files job vex) (sizes_behind files job vex names) plan stage is.outcome
        (IsCause-next r (Is (unless (no_file_of files names) plan)) (shards_behind files job vex names) plan stage
        (sym (ap (λ (o : Option Answer). unless o plan) none)) cause)

    pub shard-refused : (told : Option Files) → WhereTold told (λ files. IsSurveyed files job vex plan id epochs)
        → WhereTold told (λ files. no_file_of files names ≡ None)
        → WhereTold told (λ files. IsCause r (ShardsOf files id epochs names))
        → WhereTold told (λ files. IsCause r (MergeOf files job vex names))
    shard-refused None is none cause = tt
    shard-refused (Some files) is none cause =
        there files is none
        (IsCause-first r (ShardsOf files (identity_under files job vex plan) (sizes_of plan) names) (verdict_behind plan) stage
        (subst (λ (e : JobSizes). IsCause r (ShardsOf files (identity_under files job vex plan) e names)) is.cut
        (subst (λ (i : List ℕ). IsCause r (ShardsOf files i epochs names)) is.identity cause)))

    pub verdict-refused : (told : Option Files) (shards : List Shard) → WhereTold told (λ files. IsSurveyed files job vex plan id epochs)
        → WhereTold told (λ files. no_file_of files names ≡ None)
        → WhereTold told (λ files. (keeps : List (List KeptEpoch)) × AreShardsOf files id epochs names shards keeps)
        → WhereTold told (λ files. (id : List ℕ) (keeps : List (List KeptEpoch))
        → AreReadFrom files id epochs shards keeps → IsDue r (option_map merge_answer (verdict epochs keeps)))
        → WhereTold told (λ files. IsCause r (MergeOf files job vex names))
    verdict-refused None shards is none are due = tt
    verdict-refused (Some files) shards is none are due =
        there files is none
        (IsCause-next r (ShardsOf files (identity_under files job vex plan) (sizes_of plan) names) (verdict_behind plan) are.0 stage
        (subst (λ (e : JobSizes). ShardsOf files (identity_under files job vex plan) e names (Ok are.0)) is.cut
        (subst (λ (i : List ℕ). ShardsOf files i epochs names (Ok are.0)) is.identity are.1.outcome))
        (IsCause-unless r (option_map merge_answer (verdict (sizes_of plan) are.0)) (record { plan = plan; keeps = are.0 })
        (subst (λ (e : JobSizes). IsDue r (option_map merge_answer (verdict e are.0))) is.cut (due id are.0 are.1.read))))

pub merge-done : (job : List ℕ) (vex : Option (List ℕ)) (names : List (List ℕ)) (m : MergeJob) (told : Option Files)
    → WhereTold told (λ files. IsSurveyed files job vex m.survey.plan m.survey.identity m.survey.epochs)
    → WhereTold told (λ files. no_file_of files names ≡ None)
    → WhereTold told (λ files. (keeps : List (List KeptEpoch)) × AreShardsOf files m.survey.identity m.survey.epochs names m.shards.items keeps)
    → WhereTold told (λ files. (id : List ℕ) (keeps : List (List KeptEpoch))
    → AreReadFrom files id m.survey.epochs m.shards.items keeps → verdict m.survey.epochs keeps ≡ None)
    → WhereTold told (λ files. (keeps : List (List KeptEpoch)) × IsMergeOf files job vex names m keeps)
merge-done job vex names m None is none are together = tt
merge-done job vex names m (Some files) is none are together = (are.0, record { read = are.1.read; outcome = outcome })
  where
    plan : Plan
    plan = m.survey.plan

    keeps : List (List KeptEpoch)
    keeps = are.0

    both : Merge
    both = record { plan = plan; keeps = keeps }

    fine : verdict (sizes_of plan) keeps ≡ None
    fine = subst (λ (e : JobSizes). verdict e keeps ≡ None) is.cut (together m.survey.identity keeps are.1.read)

    outcome : MergeOf files job vex names (Ok both)
    outcome = (
      plan,
      is.outcome,
      (
        plan,
        sym (ap (λ (o : Option Answer). unless o plan) none),
        (
          keeps,
          subst (λ (e : JobSizes). ShardsOf files (identity_under files job vex plan) e names (Ok keeps)) is.cut
              (subst (λ (i : List ℕ). ShardsOf files i m.survey.epochs names (Ok keeps)) is.identity are.1.outcome),
          sym (ap (λ (o : Option MergeFault). unless (option_map merge_answer o) both) fine),
        ),
      ),
    )

-- ---- what the command tells

pub tells-written : (job : List ℕ) (vex : Option (List ℕ)) (names : List (List ℕ)) (m : MergeJob) (told : Option Files)
    (old new : Option (List ℕ)) (result : Result (Unit {0}) Refusal)
    → WhereTold told (λ files. (keeps : List (List KeptEpoch)) × IsMergeOf files job vex names m keeps)
    → WhereTold told (λ files. (id : List ℕ) (keeps : List (List KeptEpoch))
    → AreReadFrom files id m.survey.epochs m.shards.items keeps → Appended old (merged m.survey.plan keeps) new result)
    → IfErr result IsOfOutput
    → WhereTold told (λ files. Tells (MergeOf files job vex names) merged_text old new result)
tells-written job vex names m None old new result is written stage = tt
tells-written job vex names m (Some files) old new result is written stage =
    tells-appended (MergeOf files job vex names) merged_text (record { plan = m.survey.plan; keeps = is.0 }) old new result is.1.outcome
    (written m.survey.identity is.0 is.1.read).all (written m.survey.identity is.0 is.1.read).part stage
