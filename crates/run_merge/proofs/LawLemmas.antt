-- A job and the journals of its parts come to one outcome, and journals that keep the direct sums make the job's record file.
use Rattle.std.specs.Prelude.{option_map}
use Rattle.std.proofs.Common.{◌≡◌, ◌∙◌, ℕ, List, [], ◌∷◌, Option, None, Some, Ok, Err, refl, sym, ap, subst, arith}
use Rattle.std.specs.List.{All}
use Rattle.std.proofs.lemmas.List.Elements.{All-cons}
use Rattle.corr_model.specs.Files.{Files, bytes_under}
use Rattle.piece_plan.specs.Epochs.{JobSizes, IsJob}
use Rattle.job_plan.specs.declared.plan.Plan.{Plan}
use Rattle.job_plan.specs.Ranges.{IsPlan}
use Rattle.job_plan.specs.Output.{output}
use Rattle.job_epochs.specs.Sizes.{sizes_of}
use Rattle.job_epochs.proofs.SizeLemmas.{sizes_of-IsJob}
use Rattle.journal_image.specs.declared.difference.Differs.{Differs}
use Rattle.journal_image.specs.Image.{KeptEpoch}
use Rattle.shard_merge.specs.declared.fault.MergeFault.{MergeFault}
use Rattle.shard_merge.specs.Shards.{ShardKeeps, IsNoShard}
use Rattle.shard_merge.specs.Verdict.{verdict}
use Rattle.shard_merge.specs.Merged.{merged}
use Rattle.shard_merge.specs.Honest.{AreHonest, EpochsFit}
use Rattle.shard_merge.proofs.LawShards.{keeps-one, shard-refused, differs-one}
use Rattle.run_notes.specs.Answers.{Answer, not_shard_answer}
use Rattle.run_ready.specs.Steps.{Is, Then, unless}
use Rattle.run_ready.specs.Sizes.{no_file_of}
use Rattle.run_ready.specs.Outcome.{SurveyOf}
use Rattle.run_ready.specs.Identities.{identity_under}
use Rattle.run_ready.proofs.LawLemmas.{AreOne, Is-one, Then-one, Then-one-behind}
use Rattle.run_merge.specs.Outcome.{Merge, merged_text, IsRanged, RangedOf, ShardOf, ShardsOf, merge_answer, MergeOf}
use Rattle.run_merge.proofs.OutcomeLemmas.{verdict_behind, shards_behind, sizes_behind}

-- ---- one outcome

-- what the file of a journal keeps, and where it differs, is one thing
record AreOfOne (id : List ℕ) (job : JobSizes) (image : List ℕ) : Type 0 where
  pub list : (kept other : List KeptEpoch) → ShardKeeps id job image kept → ShardKeeps id job image other → kept ≡ other
  pub none : (kept : List KeptEpoch) (d : Differs) → IsNoShard id job image d → ShardKeeps id job image kept → ⊥
  pub place : (d e : Differs) → IsNoShard id job image d → IsNoShard id job image e → d ≡ e

are-of-one : (id : List ℕ) (job : JobSizes) (image : List ℕ) → IsJob job → AreOfOne id job image
are-of-one id job image is = record {
  list = λ kept other. keeps-one id job image kept other is;
  none = λ kept d. shard-refused id job image kept d;
  place = λ d e. differs-one id job image d e is;
}

ShardOf-one : (files : Files) (id : List ℕ) (job : JobSizes) (name : List ℕ) → AreOfOne id job (bytes_under files name)
    → AreOne (ShardOf files id job name)
ShardOf-one files id job name one (Ok kept) (Ok other) p q = ap Ok (one.list kept other p q)
ShardOf-one files id job name one (Ok kept) (Err e) p q = absurd (one.none kept q.0 q.1 p)
ShardOf-one files id job name one (Err e) (Ok kept) p q = absurd (one.none kept p.0 p.1 q)
ShardOf-one files id job name one (Err e) (Err f) p q =
    ap Err (p.2 ∙ ap (λ (d : Differs). not_shard_answer name d.at) (one.place p.0 q.0 p.1 q.1) ∙ sym q.2)

ShardsOf-one : (files : Files) (id : List ℕ) (job : JobSizes) (names : List (List ℕ)) → ((image : List ℕ) → AreOfOne id job image)
    → AreOne (ShardsOf files id job names)
ShardsOf-one files id job [] one = Is-one (Ok [])
ShardsOf-one files id job (name ∷ names) one =
    Then-one (ShardOf files id job name) (λ kept. Then (ShardsOf files id job names) (λ keeps. Is (Ok (kept ∷ keeps))))
    (ShardOf-one files id job name (one (bytes_under files name)))
    (λ kept. Then-one (ShardsOf files id job names) (λ keeps. Is (Ok (kept ∷ keeps))) (ShardsOf-one files id job names one)
    (λ keeps. Is-one (Ok (kept ∷ keeps))))

RangedOf-one : (files : Files) (job : List ℕ) (vex : Option (List ℕ)) → AreOne (SurveyOf files job vex None) → AreOne (RangedOf files job vex)
RangedOf-one files job vex one (Ok a) (Ok b) p q = one (Ok a) (Ok b) p.0 q.0
RangedOf-one files job vex one (Ok a) (Err e) p q = one (Ok a) (Err e) p.0 q
RangedOf-one files job vex one (Err e) (Ok a) p q = one (Err e) (Ok a) p q.0
RangedOf-one files job vex one (Err e) (Err f) p q = one (Err e) (Err f) p q

-- a plan in its ranges is cut into epochs of a job
IsJob-ranged : (plan : Plan) → IsRanged plan → IsJob (sizes_of plan)
IsJob-ranged plan is = sizes_of-IsJob plan is.ranges is.few

unless-same : {A : Type 0} (o : Option Answer) (a b : A) → Is (unless o a) (Ok b) → b ≡ a
unless-same None a b is = cc
unless-same (Some answer) a b is = absurd cc

unless-none : {A : Type 0} (o : Option Answer) (a b : A) → Is (unless o a) (Ok b) → o ≡ None
unless-none None a b is = cc
unless-none (Some answer) a b is = absurd cc

pub MergeOf-one : (files : Files) (job : List ℕ) (vex : Option (List ℕ)) (names : List (List ℕ)) → AreOne (SurveyOf files job vex None)
    → AreOne (MergeOf files job vex names)
MergeOf-one files job vex names survey =
    Then-one-behind (RangedOf files job vex) (sizes_behind files job vex names) (RangedOf-one files job vex survey)
    (λ plan is. Then-one-behind (Is (unless (no_file_of files names) plan)) (shards_behind files job vex names)
    (Is-one (unless (no_file_of files names) plan))
    (λ within same. Then-one (ShardsOf files (identity_under files job vex within) (sizes_of within) names) (verdict_behind within)
    (ShardsOf-one files (identity_under files job vex within) (sizes_of within) names
    (λ image. are-of-one (identity_under files job vex within) (sizes_of within) image
    (subst (λ (p : Plan). IsJob (sizes_of p)) (sym (unless-same (no_file_of files names) plan within same)) (IsJob-ranged plan is.1))))
    (λ keeps. Is-one (unless (option_map merge_answer (verdict (sizes_of within) keeps)) (record { plan = within; keeps = keeps })))))

-- ---- journals that keep the direct sums

-- the epochs that journals keep are the job's
ShardsOf-fit : (files : Files) (id : List ℕ) (job : JobSizes) (names : List (List ℕ)) (keeps : List (List KeptEpoch))
    → ((image : List ℕ) (kept : List KeptEpoch) → ShardKeeps id job image kept → EpochsFit job kept)
    → ShardsOf files id job names (Ok keeps) → All (EpochsFit job) keeps
ShardsOf-fit files id job [] keeps fit is =
    let none : keeps ≡ [] = cc in
    subst (All (EpochsFit job)) (sym none) (λ k d inside. absurd (omega arith))
ShardsOf-fit files id job (name ∷ names) keeps fit is =
    let more : keeps ≡ is.0 ∷ is.2.0 = let same : Ok keeps ≡ Ok (is.0 ∷ is.2.0) = is.2.2 in cc in
    subst (All (EpochsFit job)) (sym more)
    (All-cons (EpochsFit job) is.0 is.2.0 (fit (bytes_under files name) is.0 is.1) (ShardsOf-fit files id job names is.2.0 fit is.2.1))

none-answered : (o : Option MergeFault) → option_map merge_answer o ≡ None → o ≡ None
none-answered None none = refl
none-answered (Some fault) none = absurd cc

pub MergeOf-honest : (files : Files) (job : List ℕ) (vex : Option (List ℕ)) (names : List (List ℕ)) (x : Merge)
    → ((id : List ℕ) (sizes : JobSizes) (image : List ℕ) (kept : List KeptEpoch) → IsJob sizes → ShardKeeps id sizes image kept → EpochsFit sizes kept)
    → ((plan : Plan) (keeps : List (List KeptEpoch)) → IsPlan plan → All (EpochsFit (sizes_of plan)) keeps → All (AreHonest plan files) keeps
    → verdict (sizes_of plan) keeps ≡ None → merged plan keeps ≡ output plan files)
    → MergeOf files job vex names (Ok x) → All (AreHonest x.plan files) x.keeps → merged_text x ≡ output x.plan files
MergeOf-honest files job vex names x fit makes is honest = makes x.plan x.keeps ranged.ranges fitting honest fine
  where
    within : Plan
    within = is.2.0

    keeps : List (List KeptEpoch)
    keeps = is.2.2.0

    wrong : Option MergeFault
    wrong = verdict (sizes_of within) keeps

    both : x ≡ record { plan = within; keeps = keeps }
    both = unless-same (option_map merge_answer wrong) (record { plan = within; keeps = keeps }) x is.2.2.2

    same_plan : x.plan ≡ within
    same_plan = ap (λ (y : Merge). y.plan) both

    same_keeps : x.keeps ≡ keeps
    same_keeps = ap (λ (y : Merge). y.keeps) both

    ranged : IsRanged x.plan
    ranged = subst IsRanged (sym (same_plan ∙ unless-same (no_file_of files names) is.0 within is.2.1)) is.1.1

    all : All (EpochsFit (sizes_of within)) keeps
    all =
        ShardsOf-fit files (identity_under files job vex within) (sizes_of within) names keeps
        (λ image kept. fit (identity_under files job vex within) (sizes_of within) image kept
        (subst (λ (p : Plan). IsJob (sizes_of p)) same_plan (IsJob-ranged x.plan ranged)))
        is.2.2.1

    fitting : All (EpochsFit (sizes_of x.plan)) x.keeps
    fitting =
        subst (λ (p : Plan). All (EpochsFit (sizes_of p)) x.keeps) (sym same_plan)
        (subst (All (EpochsFit (sizes_of within))) (sym same_keeps) all)

    fine : verdict (sizes_of x.plan) x.keeps ≡ None
    fine =
        ap (λ (y : Merge). verdict (sizes_of y.plan) y.keeps) both
        ∙ none-answered wrong (unless-none (option_map merge_answer wrong) (record { plan = within; keeps = keeps }) x is.2.2.2)
