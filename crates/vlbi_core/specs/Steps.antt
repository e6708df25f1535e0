-- A call before its status: what it did where it is done, and what it was refused for.
use Rattle.std.specs.Prelude.{◌≡◌, ◌⊎◌, ⊤, ℕ, ◌+◌, ◌≤◌, ◌<◌, ◌^◌, true, false, List, length, Option, None, Some, Result, Ok, Err, IsOk, OnOk, IfErr, MatchResult}
use Rattle.dev_traits.specs.Fault.{HasRisen}
use Rattle.dev_traits.specs.Told.{more, WhereTold}
use Rattle.corr_model.specs.Files.{Files}
use Rattle.job_plan.specs.declared.plan.Plan.{Plan}
use Rattle.job_plan.specs.Ranges.{IsPlan}
use Rattle.journal_image.specs.declared.difference.Differs.{Differs}
use Rattle.piece_plan.specs.Epochs.{JobSizes}
use Rattle.checkpoint_journal.specs.Finding.{IsOther}
use Rattle.checkpoint_journal.specs.Runs.{Looks, Changes, StepTold, KeepsEpochs}
use Rattle.run_words.specs.declared.fault.WordsFault.{WordsFault}
use Rattle.run_words.specs.declared.order.Order.{Order}
use Rattle.run_notes.specs.declared.refusal.Refusal.{Refusal}
use Rattle.run_notes.specs.declared.refusal.Refusal.TheVariants.{Memory, Words, Due as DueRefusal, Other, Read, Journal, Write}
use Rattle.run_notes.specs.Answers.{words_answer}
use Rattle.run_notes.specs.Refusals.{Outcomes, MatchJournal, due_answer}
use Rattle.run_ready.specs.Steps.{Is, Then, answered}
use Rattle.journal_rounds.specs.Counted.{IsFull}
use Rattle.journal_rounds.specs.Extended.{Extends}
use Rattle.vlbi_core.specs.Calls.{Call, Task, OfJob, OfText, TaskFor, end_text, identity_for, sizes_for, IsOursFor, KeepsManyFor, KeepsAll}
use Rattle.vlbi_core.specs.Texts.{IsSummedFor, IsText, IsPart}
use Rattle.vlbi_core.specs.Restart.{IsHonest, IsWriterOf, IsNoWriter}

-- what words and files come to, by the order that the words give
abbrev pub OutcomeFrom : Result Order WordsFault → Files → Outcomes Task
OutcomeFrom wanted files = Then (Is (answered words_answer wanted)) (TaskFor files)

-- ---- refusals by the words

-- a refusal by the words: their fault, or want of memory
abbrev pub IsOfWords : Result Order WordsFault → Refusal → Type 0
IsOfWords wanted Memory = ⊤
IsOfWords wanted (Words fault) = wanted ≡ Err fault
IsOfWords wanted (DueRefusal due) = ⊥
IsOfWords wanted (Other d) = ⊥
IsOfWords wanted Read = ⊥
IsOfWords wanted (Journal kept) = ⊥
IsOfWords wanted Write = ⊥

-- a refusal is by the words exactly where it is their fault; want of memory may come with any words
abbrev pub IsWordedBy : Result Order WordsFault → Refusal → Type 0
IsWordedBy wanted Memory = ⊤
IsWordedBy wanted (Words fault) = wanted ≡ Err fault
IsWordedBy wanted (DueRefusal due) = IsOk wanted
IsWordedBy wanted (Other d) = IsOk wanted
IsWordedBy wanted Read = IsOk wanted
IsWordedBy wanted (Journal kept) = IsOk wanted
IsWordedBy wanted Write = IsOk wanted

abbrev pub IsWorded : {T : Type 0} → Result Order WordsFault → Result T Refusal → Type 0
IsWorded wanted (Ok x) = IsOk wanted
IsWorded wanted (Err r) = IsWordedBy wanted r

-- a refusal by what is behind the words
abbrev pub IsBehindWords : Refusal → Type 0
IsBehindWords (Words fault) = ⊥
IsBehindWords _ = ⊤

-- no number of epochs is named
abbrev pub IsUnnumbered : Refusal → Type 0
IsUnnumbered (Journal (Some kept)) = ⊥
IsUnnumbered _ = ⊤

-- a number of epochs that a refusal names has 64 bits
abbrev pub IsShort : Refusal → Type 0
IsShort (Journal kept) = (k : ℕ) → kept ≡ Some k → k < 2 ^ 64
IsShort _ = ⊤

-- A fault of the journal comes only where the disk's count rose, or it stays and the journal is full; and with any other answer it stays.
abbrev pub CountsJournalOr : {T : Type 0} → Type 0 → ℕ → ℕ → Result T Refusal → Type 0
CountsJournalOr full before now result =
    MatchResult result (λ _. now ≡ before)
    (λ r. MatchJournal r (HasRisen before now ⊎ ((now ≡ before) × full)) (now ≡ before))

-- ---- commands whose refusals are few

-- What a call over devices in memory may be refused for, where no verdict is due and no read fails: want of memory, and a fault of
-- its journal or its output.
abbrev pub IsOfMemory : Refusal → Type 0
IsOfMemory Memory = ⊤
IsOfMemory (Journal kept) = ⊤
IsOfMemory Write = ⊤
IsOfMemory _ = ⊥

-- what the totals of a sample may be refused for: want of memory, and a fault of the output
abbrev pub IsOfSample : Refusal → Type 0
IsOfSample Memory = ⊤
IsOfSample Write = ⊤
IsOfSample _ = ⊥

-- a plan in its ranges, where a call comes to one
pub record IsPlanned (outcomes : Outcomes Plan) : Type 0 where
  pub plan : Plan
  pub outcome : outcomes (Ok plan)
  pub ranges : IsPlan plan
  pub few : length plan.scans ≤ 8388608

-- what a look at the journal may be refused for: want of memory, another job's journal, and a fault that names no epochs
abbrev pub IsLookedFor : List ℕ → JobSizes → Option (List ℕ) → Refusal → Type 0
IsLookedFor id job before Memory = ⊤
IsLookedFor id job before (Other d) = WhereTold before (λ image. IsOther id job image d)
IsLookedFor id job before (Journal None) = ⊤
IsLookedFor id job before _ = ⊥

-- ---- causes

-- The journal that a call on a job went on from: what a read gave is blank or of the job's form.
abbrev pub IsOpened : Files → Task → Option (List ℕ) → Type 0
IsOpened files (OfText text) before = ⊤
IsOpened files (OfJob call) before = WhereTold before (IsOursFor files call)

-- another job's journal
pub record IsOtherCause (outcomes : Outcomes Task) (files : Files) (before : Option (List ℕ)) (d : Differs) : Type 0 where
  pub call : Call
  pub outcome : outcomes (Ok (OfJob call))
  pub other : WhereTold before (λ image. IsOther (identity_for files call) (sizes_for call) image d)

-- What a fault of the journal says in a call that sums: of each image how many epochs it keeps, or that nothing was appended
-- and all that was kept is kept.
abbrev pub SaysFor : Option ℕ → Files → Call → (List ℕ → Type 0) → Option (List ℕ) → Option (List ℕ) → Option (List ℕ) → Option (List ℕ) → Type 0
SaysFor (Some k) files call images before after old new =
    (image : List ℕ) → images image → KeepsManyFor files call image k ⊎ KeepsManyFor files call image (k + 1)
SaysFor None files call images before after old new =
    (new ≡ old) × StepTold (KeepsEpochs (identity_for files call) (sizes_for call)) before after

pub record IsJournalCause (outcomes : Outcomes Task) (files : Files) (images : List ℕ → Type 0) (before after old new : Option (List ℕ)) (kept : Option ℕ) : Type 0 where
  pub call : Call
  pub outcome : outcomes (Ok (OfJob call))
  pub says : call.sums ≡ true → SaysFor kept files call images before after old new
  pub unnamed : call.sums ≡ false → kept ≡ None

-- The journal of a call that sums is full: no byte is left behind its last gate for the next record or mark. It was read, and had 2^62 bytes
-- or more on entry.
pub record IsFullFor (outcomes : Outcomes Task) (files : Files) (before after : Option (List ℕ)) : Type 0 where
  pub call : Call
  pub outcome : outcomes (Ok (OfJob call))
  pub run : call.sums ≡ true
  pub full : WhereTold after (IsFull (identity_for files call) (sizes_for call))
  pub long : WhereTold before (λ image. 2 ^ 62 ≤ length image)

-- a fault of the output comes behind the opening of the journal
pub record IsWriteCause (outcomes : Outcomes Task) (files : Files) (before : Option (List ℕ)) : Type 0 where
  pub task : Task
  pub outcome : outcomes (Ok task)
  pub opened : IsOpened files task before

-- a refusal has its cause
abbrev pub IsCauseOf : Refusal → Outcomes Task → Files → (List ℕ → Type 0) → Option (List ℕ) → Option (List ℕ) → Option (List ℕ) → Option (List ℕ) → Type 0
IsCauseOf Memory outcomes files images before after old new = ⊤
IsCauseOf (Words fault) outcomes files images before after old new = outcomes (Err (words_answer fault))
IsCauseOf (DueRefusal due) outcomes files images before after old new = outcomes (Err (due_answer due))
IsCauseOf (Other d) outcomes files images before after old new = IsOtherCause outcomes files before d
IsCauseOf Read outcomes files images before after old new = ⊤
IsCauseOf (Journal kept) outcomes files images before after old new = IsJournalCause outcomes files images before after old new kept
IsCauseOf Write outcomes files images before after old new = IsWriteCause outcomes files before

-- ---- what was appended

-- What a refused call appended: nothing where it was refused for what it was given; nothing or a first part of the text with
-- want of memory, a read fault and a fault of the journal; and such a part with a write fault.
abbrev pub IsPartly : Refusal → Outcomes Task → Files → Option (List ℕ) → Option (List ℕ) → Option (List ℕ) → Option (List ℕ) → Type 0
IsPartly Memory outcomes files before after old new = (new ≡ old) ⊎ IsPart outcomes files before after old new
IsPartly (Words fault) outcomes files before after old new = new ≡ old
IsPartly (DueRefusal due) outcomes files before after old new = new ≡ old
IsPartly (Other d) outcomes files before after old new = new ≡ old
IsPartly Read outcomes files before after old new = (new ≡ old) ⊎ IsPart outcomes files before after old new
IsPartly (Journal kept) outcomes files before after old new = (new ≡ old) ⊎ IsPart outcomes files before after old new
IsPartly Write outcomes files before after old new = IsPart outcomes files before after old new

-- A call is done: its text was appended, and behind a call that sums each image keeps epochs that cover the job or its part, and the text is that of
-- the direct sums, or a part's line, where the image on entry was honest.
pub record IsDone {D : Type 0} (outcomes : Outcomes Task) (files : Files) (seen : D → Option (List ℕ)) (moment : D → ℕ) (may_leave : D → ℕ → List ℕ → Type 0)
    (before after : D) (old new : Option (List ℕ)) : Type 0 where
  pub task : Task
  pub outcome : outcomes (Ok task)
  pub opened : IsOpened files task (seen before)
  pub text : List ℕ
  pub is : IsText files task (seen before) (seen after) text
  pub told : new ≡ more old text
  pub all : (call : Call) → task ≡ OfJob call → call.sums ≡ true → (image : List ℕ) → may_leave after (moment after) image → KeepsAll files call image
  pub sums : (call : Call) → task ≡ OfJob call → call.sums ≡ true → WhereTold (seen before) (λ image. IsHonest files call image → new ≡ more old (end_text files call))

-- A call wrote to the journal: it is one that sums, what a read of the journal gave on entry is blank or of the job's form, and each
-- image goes on from one before it with epochs of the length in force and their sums.
pub record IsRunning {D : Type 0} (outcomes : Outcomes Task) (files : Files) (seen : D → Option (List ℕ)) (moment : D → ℕ) (may_leave : D → ℕ → List ℕ → Type 0)
    (before after : D) : Type 0 where
  pub call : Call
  pub outcome : outcomes (Ok (OfJob call))
  pub run : call.sums ≡ true
  pub opened : WhereTold (seen before) (IsOursFor files call)
  pub changes : Changes seen moment may_leave (Extends (IsSummedFor files call) (identity_for files call) (sizes_for call)) before after

-- A call gave the journal no image that it did not have, or it is a call that sums and wrote to it.
abbrev pub Goes : {D : Type 0} → Outcomes Task → Files → (D → Option (List ℕ)) → (D → ℕ) → (D → ℕ → List ℕ → Type 0) → D → D → Type 0
Goes outcomes files seen moment may_leave before after =
    Looks seen moment may_leave before after ⊎ IsRunning outcomes files seen moment may_leave before after

-- words and files come to a call whose plan is in its ranges
pub record IsRanged (outcomes : Outcomes Task) : Type 0 where
  pub call : Call
  pub outcome : outcomes (Ok (OfJob call))
  pub ranges : IsPlan call.plan
  pub few : length call.plan.scans ≤ 8388608

-- A call gave the journal no image that it did not have, or its plan is in its ranges.
abbrev pub GoesRanged : {D : Type 0} → Outcomes Task → (D → Option (List ℕ)) → (D → ℕ) → (D → ℕ → List ℕ → Type 0) → D → D → Type 0
GoesRanged outcomes seen moment may_leave before after = Looks seen moment may_leave before after ⊎ IsRanged outcomes

-- What a call did, by what the words give and where the shelf tells its files.
pub record Does {D : Type 0} (wanted : Result Order WordsFault) (files : Files) (seen : D → Option (List ℕ)) (moment : D → ℕ) (may_leave : D → ℕ → List ℕ → Type 0)
    (before after : D) (old new : Option (List ℕ)) (result : Result (Unit {0}) Refusal) : Type 0 where
  pub goes : Goes (OutcomeFrom wanted files) files seen moment may_leave before after
  pub done : OnOk result (IsDone (OutcomeFrom wanted files) files seen moment may_leave before after old new)
  pub cause : IfErr result (λ r. IsCauseOf r (OutcomeFrom wanted files) files (may_leave after (moment after)) (seen before) (seen after) old new)
  pub part : IfErr result (λ r. IsPartly r (OutcomeFrom wanted files) files (seen before) (seen after) old new)

-- ---- whether the devices tell their content or not

-- a fact where a call was refused for what it was given
abbrev pub MatchDue : Refusal → Type 0 → Type 0
MatchDue (Words fault) P = P
MatchDue (DueRefusal due) P = P
MatchDue (Other d) P = P
MatchDue _ P = ⊤

-- a fact with want of memory and with a read fault
abbrev pub MatchEarly : Refusal → Type 0 → Type 0
MatchEarly Memory P = P
MatchEarly Read P = P
MatchEarly _ P = ⊤

-- one fact with another job's journal, another with what is wrong with words and files
abbrev pub MatchVerdict : Refusal → Type 0 → Type 0 → Type 0
MatchVerdict (Words fault) P Q = Q
MatchVerdict (DueRefusal due) P Q = Q
MatchVerdict (Other d) P Q = P
MatchVerdict _ P Q = ⊤

-- What a call left: with a verdict the output, in a call that sums the output before all is summed, in any other call and where
-- the words or files are wrong the journal's images, and what is read of another job's journal.
pub record Leaves {D : Type 0} (wanted : Result Order WordsFault) (seen : D → Option (List ℕ)) (moment : D → ℕ) (may_leave : D → ℕ → List ℕ → Type 0)
    (before after : D) (old new : Option (List ℕ)) (result : Result (Unit {0}) Refusal) : Type 0 where
  pub nothing : IfErr result (λ r. MatchDue r (new ≡ old))
  pub whole : IsWriterOf wanted → IfErr result (λ r. MatchEarly r (new ≡ old))
  pub untouched : IsNoWriter wanted → Looks seen moment may_leave before after
  pub verdict : IfErr result (λ r. MatchVerdict r (seen after ≡ seen before) (Looks seen moment may_leave before after))
