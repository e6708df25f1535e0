-- What the status, the output and the note of a call say.
use Rattle.std.specs.Prelude.{◌≡◌, ◌⊎◌, ⊤, ℕ, ◌<◌, ◌^◌, true, false, List, [], length, Option, Some, None, Result, Ok, Err}
use Rattle.dev_traits.specs.Told.{more, PrefixMore, WhereTold}
use Rattle.corr_model.specs.Files.{Files}
use Rattle.journal_image.specs.declared.difference.Differs.{Differs}
use Rattle.journal_image.specs.Image.{is_blank, Reading, Reads}
use Rattle.checkpoint_journal.specs.Finding.{IsOther}
use Rattle.run_notes.specs.declared.refusal.Refusal.{Refusal}
use Rattle.run_words.specs.declared.fault.WordsFault.{WordsFault}
use Rattle.run_words.specs.declared.order.Order.{Order}
use Rattle.run_notes.specs.Answers.{Answer, words_answer, memory_answer, read_answer, journal_answer, write_answer, other_answer}
use Rattle.run_notes.specs.Refusals.{Outcomes, answer_of}
use Rattle.vlbi_core.specs.Calls.{Call, Task, OfJob, OfText, identity_for, sizes_for, IsOursFor}
use Rattle.vlbi_core.specs.Texts.{IsText, IsPart}
use Rattle.vlbi_core.specs.Restart.{SaysKept, IsNoWriter}
use Rattle.vlbi_core.specs.Steps.{OutcomeFrom}

-- the statuses of what is wrong with words and files
abbrev pub IsVerdictStatus : ℕ → Type 0
IsVerdictStatus status = (status ≡ 2) ⊎ ((status ≡ 3) ⊎ ((status ≡ 4) ⊎ ((status ≡ 5) ⊎ ((status ≡ 6) ⊎ ((status ≡ 11) ⊎ ((status ≡ 12) ⊎ ((status ≡ 13) ⊎ (status ≡ 14))))))))

-- the statuses of what is wrong with what a call is given: those, and that of another job's journal
abbrev pub IsDueStatus : ℕ → Type 0
IsDueStatus status = (status ≡ 10) ⊎ IsVerdictStatus status

-- the statuses of a call: done, out of memory, a read fault, a journal fault, a write fault, and those
abbrev pub IsStatus : ℕ → Type 0
IsStatus status = (status ≡ 0) ⊎ ((status ≡ 1) ⊎ ((status ≡ 7) ⊎ ((status ≡ 8) ⊎ ((status ≡ 9) ⊎ IsDueStatus status))))

-- A journal that a call can go on from: its count of faults did not rise, what a read gives is blank or of the job's form, and for a call that
-- sums it has fewer than 2^62 bytes, so that it has room for the rest of the job or its part.
pub record IsUsableJournal (files : Files) (call : Call) (journal : Option (List ℕ)) (fault : Type 0) : Type 0 where
  pub sound : ¬ fault
  pub image : List ℕ
  pub read : journal ≡ Some image
  pub ours : IsOursFor files call image
  pub short : call.sums ≡ true → length image < 2 ^ 62

-- so it is, where a task is on a journal
abbrev pub IsUsable : Files → Task → Option (List ℕ) → Type 0 → Type 0
IsUsable files (OfText text) journal fault = ⊤
IsUsable files (OfJob call) journal fault = IsUsableJournal files call journal fault

-- a journal that is neither blank nor of the job's form
pub record IsForeign (files : Files) (call : Call) (image : List ℕ) : Type 0 where
  pub begun : is_blank image ≡ false
  pub unread : (r : Reading) → ¬ Reads (identity_for files call) (sizes_for call) image r

-- What the status says of what words and files come to, and of what the journal's disk reads on entry. A status of what is wrong
-- is that of the answer; where an answer refuses, want of memory and a read fault may come before it; status 10 comes of another
-- job's journal, where nothing refuses, and such a journal gives no other status but those of faults; and where nothing refuses,
-- the journal can be used and no count of faults rose, the call is done, or is out of memory.
pub record IsVerdict (outcomes : Outcomes Task) (files : Files) (journal : Option (List ℕ)) (status : ℕ)
    (read_fault journal_fault write_fault : Type 0) : Type 0 where
  pub due : IsVerdictStatus status → (answer : Answer) × outcomes (Err answer) × (answer.status ≡ status)
  pub refused : (answer : Answer) → outcomes (Err answer) → (status ≡ answer.status) ⊎ ((status ≡ 1) ⊎ (status ≡ 7))
  pub other : status ≡ 10 → (call : Call) × outcomes (Ok (OfJob call)) × WhereTold journal (IsForeign files call)
  pub foreign : (call : Call) (image : List ℕ) → outcomes (Ok (OfJob call)) → journal ≡ Some image → IsForeign files call image
      → (status ≡ 10) ⊎ ((status ≡ 1) ⊎ ((status ≡ 7) ⊎ (status ≡ 8)))
  pub complete : (task : Task) → outcomes (Ok task) → ¬ read_fault → ¬ write_fault → IsUsable files task journal journal_fault
      → (status ≡ 0) ⊎ (status ≡ 1)

-- What is appended: with status 0 the text of the task, with the statuses of what is wrong nothing, and with a fault or want of
-- memory nothing or a first part of the text.
pub record IsAppended (outcomes : Outcomes Task) (files : Files) (before after : Option (List ℕ)) (status : ℕ)
    (old new : Option (List ℕ)) : Type 0 where
  pub done : status ≡ 0 → (task : Task) × outcomes (Ok task) × ((text : List ℕ) × IsText files task before after text × (new ≡ more old text))
  pub nothing : IsDueStatus status → new ≡ old
  pub part : (status ≡ 1) ⊎ ((status ≡ 7) ⊎ (status ≡ 8)) → (new ≡ old) ⊎ IsPart outcomes files before after old new
  pub write : status ≡ 9 → IsPart outcomes files before after old new

-- the line of a fault of the journal
abbrev pub IsJournalLine : List ℕ → Type 0
IsJournalLine line = (kept : Option ℕ) × (line ≡ (journal_answer kept).note)

-- the line of a status that needs no verdict
abbrev pub IsOwnLine : ℕ → List ℕ → Type 0
IsOwnLine status line =
    ((status ≡ 0) × (line ≡ []))
    ⊎ (((status ≡ 1) × (line ≡ memory_answer.note))
    ⊎ (((status ≡ 7) × (line ≡ read_answer.note))
    ⊎ (((status ≡ 8) × IsJournalLine line) ⊎ ((status ≡ 9) × (line ≡ write_answer.note)))))

-- the line of another job's journal: where it differs from the call's
pub record IsOtherLine (outcomes : Outcomes Task) (files : Files) (journal : Option (List ℕ)) (line : List ℕ) : Type 0 where
  pub call : Call
  pub outcome : outcomes (Ok (OfJob call))
  pub differs : Differs
  pub other : WhereTold journal (λ image. IsOther (identity_for files call) (sizes_for call) image differs)
  pub line_is : line ≡ (other_answer differs).note

-- the line of a status, by what words and files come to, and by what the journal's disk reads on entry
abbrev pub IsLineOf : Outcomes Task → Files → Option (List ℕ) → ℕ → List ℕ → Type 0
IsLineOf outcomes files journal status line =
    IsOwnLine status line
    ⊎ (((status ≡ 10) × IsOtherLine outcomes files journal line)
    ⊎ (IsVerdictStatus status × ((answer : Answer) × outcomes (Err answer) × ((answer.status ≡ status) × (answer.note ≡ line)))))

-- the line of some refusal with this status, or none with status 0
abbrev pub IsSomeLine : ℕ → List ℕ → Type 0
IsSomeLine status line =
    ((status ≡ 0) × (line ≡ []))
    ⊎ ((r : Refusal) × (((answer_of r).status ≡ status) × ((answer_of r).note ≡ line)))

-- the line of the words' fault
abbrev pub IsWordsLine : Result Order WordsFault → List ℕ → Type 0
IsWordsLine wanted line = (fault : WordsFault) × (wanted ≡ Err fault) × (line ≡ (words_answer fault).note)

-- a line on the notes: a first part of it, and all of it where the notes did not fail
pub record IsNoted (line : List ℕ) (old new : Option (List ℕ)) (fault : Type 0) : Type 0 where
  pub part : PrefixMore old line new
  pub all : ¬ fault → new ≡ more old line

-- The note of a call is a line of its status: with status 2 that of the words' fault, and of a fault of the journal in any call but one
-- that sums that without a number. Where the shelf tells its files it is the line of what words and files come to, and says how many epochs the
-- journal keeps. It stands in the notes, or where these failed a first part of it.
pub record IsNoteOf (wanted : Result Order WordsFault) (shelf : Option Files) (status : ℕ) (images : List ℕ → Type 0)
    (before after told_old told_new notes_old notes_new : Option (List ℕ)) (fault : Type 0) : Type 0 where
  pub line : List ℕ
  pub some : IsSomeLine status line
  pub words : status ≡ 2 → IsWordsLine wanted line
  pub unnumbered : IsNoWriter wanted → status ≡ 8 → line ≡ (journal_answer None).note
  pub verdict : WhereTold shelf (λ files. IsLineOf (OutcomeFrom wanted files) files before status line)
  pub says : WhereTold shelf (λ files. (call : Call) → OutcomeFrom wanted files (Ok (OfJob call))
      → SaysKept files call line images before after told_old told_new)
  pub noted : IsNoted line notes_old notes_new fault
