-- What a call appends where it is done.
use Rattle.std.specs.Prelude.{◌≡◌, ℕ, ◌+◌, Bool, true, false, List, ◌++◌, map, Option, Ok, None, Some}
use Rattle.std.specs.List.{All}
use Rattle.dev_traits.specs.Told.{WhereTold, PrefixMore}
use Rattle.corr_model.specs.Files.{Files}
use Rattle.piece_plan.specs.declared.epoch.EpochPlan.{EpochPlan}
use Rattle.piece_plan.specs.Order.{Place, CoverJob}
use Rattle.plan_places.specs.Walk.{AreLeft}
use Rattle.job_plan.specs.declared.plan.Plan.{Plan}
use Rattle.job_epochs.specs.Sums.{epoch_sums}
use Rattle.journal_image.specs.Image.{KeptEpoch}
use Rattle.checkpoint_journal.specs.Cells.{body_text}
use Rattle.run_notes.specs.Refusals.{Outcomes}
use Rattle.journal_rounds.specs.Extended.{BodyOf, IsSummed}
use Rattle.journal_rounds.specs.Room.{DueIn}
use Rattle.journal_records.specs.Kept.{kept_text}
use Rattle.run_summary.specs.Summaries.{kept_line, shard_line}
use Rattle.vlbi_core.specs.Calls.{Part, Call, Task, OfJob, OfText, identity_for, sizes_for, epoch_for, KeepsFor, KeepsManyFor}

-- the text of an epoch's sums
abbrev pub IsSums : Files → Plan → EpochPlan → List ℕ → Type 0
IsSums files plan e body = body ≡ body_text (epoch_sums plan files e)

-- the body of each of some epochs is that text
abbrev pub AreSums : Files → Plan → List KeptEpoch → Type 0
AreSums files plan kept = All (λ (k : KeptEpoch). IsSums files plan k.epoch k.body) kept

-- what a call appends to the journal: an epoch of the length in force, or up to its integration's end, and the text of its sums
abbrev pub IsSummedFor : Files → Call → BodyOf
IsSummedFor files call = IsSummed (Some files) call.plan (sizes_for call) (epoch_for call)

-- What the journal keeps at the end: first the epochs that it kept on entry, then further ones with the sums of each, which together cover
-- the job or the part.
pub record IsCovered (files : Files) (call : Call) (before after : List ℕ) : Type 0 where
  pub old : List KeptEpoch
  pub more : List KeptEpoch
  pub entry : KeepsFor files call before old
  pub end : KeepsFor files call after (old ++ more)
  pub sums : All (λ (k : KeptEpoch). IsSummedFor files call k.epoch k.body) more
  pub all : CoverJob (sizes_for call) (map (λ (k : KeptEpoch). k.epoch) (old ++ more))

-- the records of that
pub record IsRecords (files : Files) (call : Call) (before after text : List ℕ) : Type 0 where
  pub covered : IsCovered files call before after
  pub records : text ≡ kept_text call.plan (covered.old ++ covered.more)

-- The line of how many epochs the journal keeps, and of how many: those, and those of the length in force that are left from the place behind
-- them.
pub record IsKeptLine (files : Files) (call : Call) (image text : List ℕ) : Type 0 where
  pub kept : ℕ
  pub many : KeepsManyFor files call image kept
  pub due : Option Place
  pub is_due : DueIn (identity_for files call) (sizes_for call) image due
  pub left : ℕ
  pub are_left : AreLeft (sizes_for call) (epoch_for call) due left
  pub line : text ≡ kept_line kept (kept + left)

-- The text of a task, by what the journal's disk reads before it and after it. That of a part is a line, and the journal keeps the part's sums.
abbrev pub IsText : Files → Task → Option (List ℕ) → Option (List ℕ) → List ℕ → Type 0
IsText files (OfText written) before after text = text ≡ written
IsText files (OfJob call) before after text = by call.sums call.part
  where
    by : Bool → Option Part → Type 0
    by true None = WhereTold before (λ old. WhereTold after (λ new. IsRecords files call old new text))
    by true (Some part) = (text ≡ shard_line part.from part.to) × WhereTold before (λ old. WhereTold after (λ new. IsCovered files call old new))
    by false part = WhereTold before (λ image. IsKeptLine files call image text)

-- a first part of the text of the task, where there is one
pub record IsPart (outcomes : Outcomes Task) (files : Files) (before after old new : Option (List ℕ)) : Type 0 where
  pub task : Task
  pub outcome : outcomes (Ok task)
  pub text : List ℕ
  pub is : IsText files task before after text
  pub part : PrefixMore old text new
