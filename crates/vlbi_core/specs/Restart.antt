-- What a call leaves in the journal, at every moment.
use Rattle.std.specs.Prelude.{◌≡◌, ◌⊎◌, ⊤, ℕ, ◌+◌, ◌≤◌, true, false, List, Option, None, Some, Result, Ok, Err}
use Rattle.dev_traits.specs.Told.{more}
use Rattle.corr_model.specs.Files.{Files}
use Rattle.journal_image.specs.Image.{KeptEpoch}
use Rattle.checkpoint_journal.specs.Runs.{StepTold, KeepsEpochs}
use Rattle.run_words.specs.declared.fault.WordsFault.{WordsFault}
use Rattle.run_words.specs.declared.order.Order.{Order}
use Rattle.run_words.specs.declared.order.Order.TheVariants.{Gen, Merge}
use Rattle.run_notes.specs.Answers.{journal_answer}
use Rattle.run_notes.specs.Refusals.{Outcomes}
use Rattle.vlbi_core.specs.Calls.{Call, Task, OfJob, end_text, identity_for, sizes_for, KeepsFor, KeepsManyFor, KeepsAtLeast, KeepsAll, is_writer}
use Rattle.vlbi_core.specs.Texts.{AreSums}

-- An image is honest for a call where it is blank, or of the job's form, and the body of each epoch that it keeps is the text of the epoch's
-- sums. By that form the epochs are in order, and each of them may have its own length.
pub record IsHonest (files : Files) (call : Call) (image : List ℕ) : Type 0 where
  pub kept : List KeptEpoch
  pub keeps : KeepsFor files call image kept
  pub sums : AreSums files call.plan kept

-- A call that sums continues its job, or its part, where every image that a crash may leave on entry is honest.
pub record Continues (files : Files) (call : Call) (images : List ℕ → Type 0) : Type 0 where
  pub run : call.sums ≡ true
  pub honest : (image : List ℕ) → images image → IsHonest files call image

-- each of some images keeps so many epochs at least
abbrev pub AllKeep : Files → Call → (List ℕ → Type 0) → ℕ → Type 0
AllKeep files call images n = (image : List ℕ) → images image → KeepsAtLeast files call image n

-- Over a run of calls no epoch is lost: how many each image of a moment keeps at least, each image of every later moment keeps.
abbrev pub NoneIsLost : {D : Type 0} → Files → Call → (D → ℕ) → (D → ℕ → List ℕ → Type 0) → D → D → Type 0
NoneIsLost files call moment may_leave old new =
    (t t' n : ℕ) → moment old ≤ t → t ≤ t' → t' ≤ moment new → AllKeep files call (may_leave new t) n → AllKeep files call (may_leave new t') n

-- The call ends no earlier than it began, and no moment up to its beginning gets an image that it did not have. Every image of every
-- moment of the call is honest; what each image of a moment keeps, each image of every later moment keeps; and with status 0 each
-- image at the end keeps epochs that cover the job or the part.
pub record StaysHonest {D : Type 0} (files : Files) (call : Call) (status : ℕ) (moment : D → ℕ) (may_leave : D → ℕ → List ℕ → Type 0) (old new : D) : Type 0 where
  pub later : moment old ≤ moment new
  pub past : (t : ℕ) (image : List ℕ) → t ≤ moment old → may_leave new t image → may_leave old t image
  pub honest : (t : ℕ) (image : List ℕ) → moment old ≤ t → t ≤ moment new → may_leave new t image → IsHonest files call image
  pub never_falls : NoneIsLost files call moment may_leave old new
  pub all : status ≡ 0 → (image : List ℕ) → may_leave new (moment new) image → KeepsAll files call image

-- What a call leaves where words and files come to one that sums and continues its job or its part.
abbrev pub Restarts : {D : Type 0} → Outcomes Task → Files → ℕ → (D → ℕ) → (D → ℕ → List ℕ → Type 0) → D → D → Type 0
Restarts outcomes files status moment may_leave old new =
    (call : Call) → outcomes (Ok (OfJob call)) → Continues files call (may_leave old (moment old))
    → StaysHonest files call status moment may_leave old new

-- Such a call that is done has appended the record file of the direct sums, or the line of its part.
abbrev pub AppendsOutput : Outcomes Task → Files → (List ℕ → Type 0) → ℕ → Option (List ℕ) → Option (List ℕ) → Type 0
AppendsOutput outcomes files images status told_old told_new =
    (call : Call) → outcomes (Ok (OfJob call)) → Continues files call images
    → status ≡ 0 → told_new ≡ more told_old (end_text files call)

-- words of a command that sums into the journal, and words that are not
abbrev pub IsWriterOf : Result Order WordsFault → Type 0
IsWriterOf (Ok order) = is_writer order ≡ true
IsWriterOf (Err fault) = ⊥

abbrev pub IsNoWriter : Result Order WordsFault → Type 0
IsNoWriter (Ok order) = is_writer order ≡ false
IsNoWriter (Err fault) = ⊤

-- words of `gen`
abbrev pub IsGenOf : Result Order WordsFault → Type 0
IsGenOf (Ok (Gen seed seconds workers piece)) = ⊤
IsGenOf _ = ⊥

-- words of `merge`
abbrev pub IsMergeOf : Result Order WordsFault → Type 0
IsMergeOf (Ok (Merge job vex names)) = ⊤
IsMergeOf _ = ⊥

-- What the line of a journal's fault says. Where a call that sums names k epochs as kept, each image at the end keeps k or k + 1.
-- Where it names none, nothing was appended, and what the disk reads keeps what it kept. `status` names none.
pub record SaysKept (files : Files) (call : Call) (line : List ℕ) (images : List ℕ → Type 0) (before after told_old told_new : Option (List ℕ)) : Type 0 where
  pub named : call.sums ≡ true → (k : ℕ) → line ≡ (journal_answer (Some k)).note
      → (image : List ℕ) → images image → KeepsManyFor files call image k ⊎ KeepsManyFor files call image (k + 1)
  pub unnamed : call.sums ≡ true → line ≡ (journal_answer None).note
      → (told_new ≡ told_old) × StepTold (KeepsEpochs (identity_for files call) (sizes_for call)) before after
  pub status : call.sums ≡ false → (k : ℕ) → ¬ (line ≡ (journal_answer (Some k)).note)
