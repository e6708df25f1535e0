-- The status of a call, what it appended, what it left in the journal and its note.
use Rattle.std.specs.Prelude.{IsErr, IsOk, IfErr, codes, unwrap_or}
use Rattle.std.proofs.Common.{◌≡◌, ◌∙◌, ◌⊎◌, inl, inr, ℕ, ◌≤◌, ◌<◌, ◌^◌, Bool, true, false, List, [], length, Option, Some, None, Result, Ok, Err, refl, sym, ap, subst, arith}
use Rattle.std.proofs.lemmas.List.{append-nil}
use Rattle.dev_traits.specs.Fault.{HasRisen}
use Rattle.dev_traits.specs.Told.{more, WhereTold}
use Rattle.dev_traits.specs.Images.{Same}
use Rattle.dev_traits.specs.Moments.{Runs}
use Rattle.dev_traits.proofs.Moments.{always}
use Rattle.sink_text.specs.Appends.{Appends}
use Rattle.sink_text.proofs.AppendedText.{Appends-part}
use Rattle.corr_model.specs.Files.{Files}
use Rattle.job_plan.specs.declared.plan.Plan.{Plan}
use Rattle.job_plan.specs.Ranges.{IsPlan}
use Rattle.job_plan.specs.Output.{output}
use Rattle.journal_image.specs.declared.difference.Differs.{Differs}
use Rattle.checkpoint_journal.specs.Finding.{IsOther}
use Rattle.checkpoint_journal.specs.Runs.{Changes}
use Rattle.checkpoint_journal.proofs.RunLemmas.{changes_looks, told_value}
use Rattle.run_words.specs.declared.fault.WordsFault.{WordsFault}
use Rattle.run_words.specs.declared.order.Order.{Order}
use Rattle.run_words.specs.declared.order.Order.TheVariants.{Run, Plain, Check, Status, Dump, Gen, Fringe, Verify, Bins, Shard, Merge as MergeOrder}
use Rattle.run_notes.specs.declared.refusal.Due.{Due}
use Rattle.run_notes.specs.declared.refusal.Due.TheVariants.{Vex, Schedule, Job, Join, Limit, NoFile, Recording, Records, Certificate, Bins as BinsDue, NoPhase, NotShard, Uncovered, Differs as DifferDue}
use Rattle.run_notes.specs.declared.refusal.Refusal.{Refusal}
use Rattle.run_notes.specs.declared.refusal.Refusal.TheVariants.{Memory, Words, Due as DueRefusal, Other, Read, Journal, Write}
use Rattle.run_notes.specs.Answers.{Answer, words_answer, journal_answer}
use Rattle.run_notes.specs.Refusals.{Outcomes, MatchRead, MatchReadOrJournal, MatchJournal, MatchWrite, answer_of, due_answer, WhereMemory}
use Rattle.run_notes.specs.Commands.{IsOfFilesOrOutput}
use Rattle.run_notes.specs.Counted.{CountsJournal}
use Rattle.run_ready.specs.Steps.{Is, answered}
use Rattle.run_ready.specs.Recordings.{files_answer, recordings_answer}
use Rattle.run_ready.specs.Outcome.{Wrong, PlanUnder, JoinOf, SurveyOf, PlanOf}
use Rattle.run_ready.proofs.LawLemmas.{AreOne, Then-one}
use Rattle.journal_rounds.specs.Extended.{Extends}
use Rattle.vis_records.specs.Dumped.{dump_text}
use Rattle.run_summary.specs.Summaries.{check_text}
use Rattle.run_dump.specs.Shown.{RecordsOf}
use Rattle.run_dump.proofs.LawLemmas.{RecordsOf-one}
use Rattle.fringe_search.specs.Certificates.{lines_text}
use Rattle.run_fringe.specs.Searched.{FringeOf, VerifyOf, right_text}
use Rattle.run_fringe.proofs.LawLemmas.{FringeOf-one, VerifyOf-one}
use Rattle.run_bins.specs.Texts.{bin_output}
use Rattle.run_bins.specs.Outcome.{BinsOf}
use Rattle.run_bins.proofs.LawLemmas.{BinsOf-one}
use Rattle.run_part.specs.Outcome.{PartOf}
use Rattle.run_part.proofs.LawLemmas.{PartOf-one}
use Rattle.run_merge.specs.Outcome.{MergeOf, merged_text}
use Rattle.run_merge.proofs.LawLemmas.{MergeOf-one}
use Rattle.sample_job.specs.Sample.{SampleOf, sample_shelf}
use Rattle.vlbi_core.specs.Sample.{sample_text}
use Rattle.vlbi_core.specs.Calls.{Part, Call, call_of, Task, OfJob, OfText, JobFor, TextFor, TaskFor, end_text, identity_for, sizes_for, IsOursFor, KeepsAtLeast, KeepsAll}
use Rattle.vlbi_core.specs.Texts.{IsSummedFor}
use Rattle.vlbi_core.specs.Run.{IsVerdictStatus, IsDueStatus, IsStatus, IsUsable, IsForeign, IsVerdict, IsAppended, IsWordsLine, IsLineOf, IsNoted}
use Rattle.vlbi_core.specs.Restart.{IsHonest, Continues, StaysHonest, Restarts}
use Rattle.vlbi_core.specs.Steps.{OutcomeFrom, IsWordedBy, IsOpened, IsCauseOf, IsOtherCause, IsPartly, IsDone, IsUnnumbered, IsOfSample, CountsJournalOr, IsFullFor, Goes, GoesRanged, MatchDue, MatchEarly, MatchVerdict}
use Rattle.vlbi_core.proofs.KeepLemmas.{honest-extends, least-extends, none_lost}
use Rattle.vlbi_core.proofs.CommandLemmas.{one-job}

-- ---- outcomes, of which there is one

-- the law of plans
abbrev pub OneOutcome : Type 0
OneOutcome =
    (files : Files) (wrong : Wrong) (job : List ℕ) (vex : Option (List ℕ)) (epoch : Option ℕ) (a b : Result Plan Answer)
    → PlanUnder files wrong job vex epoch a → PlanUnder files wrong job vex epoch b → a ≡ b

job-one : (sums : Bool) (job : List ℕ) (vex : Option (List ℕ)) (epoch : Option ℕ) (part : Option Part) (plans : Outcomes Plan) → AreOne plans
    → AreOne (JobFor sums job vex epoch part plans)
job-one sums job vex epoch part plans one (Ok (OfJob a)) (Ok (OfJob b)) p q =
    let same : Ok a.plan ≡ Ok b.plan = one (Ok a.plan) (Ok b.plan) p.1 q.1 in
    let two : a.plan ≡ b.plan = cc in
    ap (λ (c : Call). Ok (OfJob c)) (p.0 ∙ ap (call_of sums job vex epoch part) two ∙ sym q.0)
job-one sums job vex epoch part plans one (Ok (OfJob a)) (Ok (OfText text)) p q = absurd q
job-one sums job vex epoch part plans one (Ok (OfText text)) b p q = absurd p
job-one sums job vex epoch part plans one (Ok (OfJob a)) (Err e) p q = let h : Ok a.plan ≡ Err e = one (Ok a.plan) (Err e) p.1 q in cc
job-one sums job vex epoch part plans one (Err d) (Ok (OfJob b)) p q = let h : Ok b.plan ≡ Err d = one (Ok b.plan) (Err d) q.1 p in cc
job-one sums job vex epoch part plans one (Err d) (Ok (OfText text)) p q = absurd q
job-one sums job vex epoch part plans one (Err d) (Err e) p q =
    let x : Result Plan Answer = Err d in
    let y : Result Plan Answer = Err e in
    let h : x ≡ y = one x y p q in
    let same : d ≡ e = cc in
    ap Err same

text-one : {A : Type 0} (outcomes : Outcomes A) (text : A → List ℕ) → AreOne outcomes → AreOne (TextFor outcomes text)
text-one outcomes text one (Ok (OfJob call)) b p q = absurd p
text-one outcomes text one (Ok (OfText s)) (Ok (OfJob call)) p q = absurd q
text-one outcomes text one (Ok (OfText s)) (Ok (OfText t)) p q =
    let h : Ok p.0 ≡ Ok q.0 = one (Ok p.0) (Ok q.0) p.1 q.1 in
    let same : p.0 ≡ q.0 = cc in
    ap (λ (written : List ℕ). Ok (OfText written)) (p.2 ∙ ap text same ∙ sym q.2)
text-one outcomes text one (Ok (OfText s)) (Err e) p q = let h : Ok p.0 ≡ Err e = one (Ok p.0) (Err e) p.1 q in cc
text-one outcomes text one (Err d) (Ok (OfJob call)) p q = absurd q
text-one outcomes text one (Err d) (Ok (OfText t)) p q = let h : Ok q.0 ≡ Err d = one (Ok q.0) (Err d) q.1 p in cc
text-one {A} outcomes text one (Err d) (Err e) p q =
    let x : Result A Answer = Err d in
    let y : Result A Answer = Err e in
    let h : x ≡ y = one x y p q in
    let same : d ≡ e = cc in
    ap Err same

-- the law of the plans that parts of jobs come to
abbrev pub PartsHavePlan : Type 0
PartsHavePlan =
    (files : Files) (job : List ℕ) (vex : Option (List ℕ)) (epoch : Option ℕ) (to : ℕ) (plan : Plan)
    → PartOf files job vex epoch to (Ok plan) → JoinOf files job vex epoch (Ok plan)

-- of what each command comes to there is one, by the law of plans and that of the command's own crate
task-one : OneOutcome → (files : Files) (order : Order) → AreOne (TaskFor files order)
task-one law files (Run job vex epoch workers piece) = job-one true job vex epoch None (PlanOf files job vex epoch) (law files (recordings_answer files) job vex epoch)
task-one law files (Status job vex epoch) = job-one false job vex epoch None (SurveyOf files job vex epoch) (law files (files_answer files) job vex epoch)
task-one law files (Plain job vex) = text-one (PlanOf files job vex None) (λ plan. output plan files) (law files (recordings_answer files) job vex None)
task-one law files (Check job vex epoch) =
    text-one (PlanOf files job vex epoch) (λ plan. check_text plan (unwrap_or epoch plan.epoch) files) (law files (recordings_answer files) job vex epoch)
task-one law files (Dump file) = text-one (RecordsOf files file) dump_text (RecordsOf-one files file)
task-one law files (Gen seed seconds workers piece) =
    text-one (SampleOf seed seconds) (sample_text seed seconds)
    (law (sample_shelf seed seconds) (recordings_answer (sample_shelf seed seconds)) (codes "job") None None)
task-one law files (Fringe file rates divide) = text-one (FringeOf files file rates divide) lines_text (FringeOf-one files file rates divide)
task-one law files (Verify file certificate) = text-one (VerifyOf files file certificate) right_text (VerifyOf-one files file certificate)
task-one law files (Bins job vex phase workers piece) =
    text-one (BinsOf files job vex phase) (λ x. bin_output x files) (BinsOf-one files job vex phase (law files (λ stations. None) job vex None))
task-one law files (Shard job vex epoch workers piece from to) =
    job-one true job vex epoch (Some (record { from = from; to = to })) (PartOf files job vex epoch to)
    (PartOf-one files job vex epoch to (law files (λ stations. None) job vex epoch))
task-one law files (MergeOrder job vex names) =
    text-one (MergeOf files job vex names) merged_text (MergeOf-one files job vex names (law files (files_answer files) job vex None))

-- the plan of a call on a job, whatever is looked at of its recordings
pub plan-at : PartsHavePlan → (files : Files) (order : Order) (call : Call) → TaskFor files order (Ok (OfJob call))
    → (wrong : Wrong) × PlanUnder files wrong call.job call.vex call.epoch (Ok call.plan)
plan-at law files (Run job vex epoch workers piece) call there =
    (recordings_answer files, subst (λ (c : Call). PlanOf files c.job c.vex c.epoch (Ok call.plan)) (sym there.0) there.1)
plan-at law files (Status job vex epoch) call there =
    (files_answer files, subst (λ (c : Call). SurveyOf files c.job c.vex c.epoch (Ok call.plan)) (sym there.0) there.1)
plan-at law files (Shard job vex epoch workers piece from to) call there = (
  (λ stations. None),
  subst (λ (c : Call). JoinOf files c.job c.vex c.epoch (Ok call.plan)) (sym there.0) (law files job vex epoch to call.plan there.1),
)
plan-at law files _ call there = absurd there

pub outcome-one : OneOutcome → (wanted : Result Order WordsFault) (files : Files) → AreOne (OutcomeFrom wanted files)
outcome-one law wanted files =
    Then-one (Is (answered words_answer wanted)) (TaskFor files) (λ a b p q. p ∙ sym q) (λ order. task-one law files order)

-- ---- statuses

-- the statuses of what is wrong with the files
abbrev IsFilesStatus : ℕ → Type 0
IsFilesStatus status = (status ≡ 3) ⊎ ((status ≡ 4) ⊎ ((status ≡ 5) ⊎ ((status ≡ 6) ⊎ ((status ≡ 11) ⊎ ((status ≡ 12) ⊎ ((status ≡ 13) ⊎ (status ≡ 14)))))))

due-files : (due : Due) → IsFilesStatus (due_answer due).status
due-files (Vex fault) = inl refl
due-files (Schedule fault) = inl refl
due-files (Job fault) = inr (inl refl)
due-files (Join fault name) = inr (inl refl)
due-files (Recording key field) = inr (inr (inl refl))
due-files (Records fault) = inr (inr (inl refl))
due-files (Limit quantity value) = inr (inr (inr (inl refl)))
due-files (NoFile name) = inr (inr (inr (inr (inl refl))))
due-files (BinsDue fault) = inr (inr (inr (inr (inr (inl refl)))))
due-files (NoPhase scan) = inr (inr (inr (inr (inr (inl refl)))))
due-files (Certificate at) = inr (inr (inr (inr (inr (inr (inl refl))))))
due-files (NotShard name at) = inr (inr (inr (inr (inr (inr (inr refl))))))
due-files (Uncovered i) = inr (inr (inr (inr (inr (inr (inr refl))))))
due-files (DifferDue i group lag first other) = inr (inr (inr (inr (inr (inr (inr refl))))))

due-verdict : (due : Due) → IsVerdictStatus (due_answer due).status
due-verdict due = inr (due-files due)

-- none is that of the words or of another job's journal
files-not : (status other : ℕ) → IsFilesStatus status → status ≡ other → (other ≡ 2) ⊎ (other ≡ 10) → ⊥
files-not status other is same of = grind arith

pub refusal-status : (r : Refusal) → IsStatus (answer_of r).status
refusal-status Memory = inr (inl refl)
refusal-status (Words fault) = inr (inr (inr (inr (inr (inr (inl refl))))))
refusal-status (DueRefusal due) = inr (inr (inr (inr (inr (inr (due-verdict due))))))
refusal-status (Other d) = inr (inr (inr (inr (inr (inl refl)))))
refusal-status Read = inr (inr (inl refl))
refusal-status (Journal None) = inr (inr (inr (inl refl)))
refusal-status (Journal (Some k)) = inr (inr (inr (inl refl)))
refusal-status Write = inr (inr (inr (inr (inl refl))))

journal-status : (kept : Option ℕ) → (journal_answer kept).status ≡ 8
journal-status None = refl
journal-status (Some k) = refl

-- no status of what is wrong is one of the others
pub due-not : (status other : ℕ) → IsDueStatus status → status ≡ other → (other ≡ 0) ⊎ ((other ≡ 1) ⊎ ((other ≡ 7) ⊎ ((other ≡ 8) ⊎ (other ≡ 9)))) → ⊥
due-not status other is same of = grind arith

verdict-due : (status : ℕ) → IsVerdictStatus status → IsDueStatus status
verdict-due status is = inr is

not_due : (due : Due) (other : ℕ) → (due_answer due).status ≡ other → (other ≡ 0) ⊎ ((other ≡ 1) ⊎ ((other ≡ 7) ⊎ ((other ≡ 8) ⊎ (other ≡ 9)))) → ⊥
not_due due other same of = due-not (due_answer due).status other (inr (due-verdict due)) same of

not_journal : (kept : Option ℕ) (other : ℕ) → (journal_answer kept).status ≡ other → (other ≡ 8 → ⊥) → ⊥
not_journal None other is not = not (sym is)
not_journal (Some k) other is not = not (sym is)

-- ---- words

not-ok : (wanted : Result Order WordsFault) → IsOk wanted → IsErr wanted → ⊥
not-ok (Ok order) ok err = cc
not-ok (Err fault) ok err = cc

-- the status is 2 with a fault of the words alone
pub status-words : (wanted : Result Order WordsFault) (r : Refusal) → IsWordedBy wanted r → (answer_of r).status ≡ 2 → IsErr wanted
status-words wanted Memory by is = absurd cc
status-words wanted (Words fault) by is = subst (λ (w : Result Order WordsFault). IsErr w) (sym by) refl
status-words wanted (DueRefusal due) by is = absurd (files-not (due_answer due).status 2 (due-files due) is (inl refl))
status-words wanted (Other d) by is = absurd cc
status-words wanted Read by is = absurd cc
status-words wanted (Journal kept) by is = absurd (not_journal kept 2 is (λ e. cc))
status-words wanted Write by is = absurd cc

-- and it is, or want of memory, with each
pub words-status : (wanted : Result Order WordsFault) (r : Refusal) → IsWordedBy wanted r → IsErr wanted
    → ((answer_of r).status ≡ 2) ⊎ ((answer_of r).status ≡ 1)
words-status wanted Memory by err = inr refl
words-status wanted (Words fault) by err = inl refl
words-status wanted (DueRefusal due) by err = absurd (not-ok wanted by err)
words-status wanted (Other d) by err = absurd (not-ok wanted by err)
words-status wanted Read by err = absurd (not-ok wanted by err)
words-status wanted (Journal kept) by err = absurd (not-ok wanted by err)
words-status wanted Write by err = absurd (not-ok wanted by err)

-- the line of status 2 is that of the words' fault
pub words-line : (wanted : Result Order WordsFault) (r : Refusal) → IsWordedBy wanted r → (answer_of r).status ≡ 2 → IsWordsLine wanted (answer_of r).note
words-line wanted Memory by is = absurd cc
words-line wanted (Words fault) by is = (fault, by, refl)
words-line wanted (DueRefusal due) by is = absurd (files-not (due_answer due).status 2 (due-files due) is (inl refl))
words-line wanted (Other d) by is = absurd cc
words-line wanted Read by is = absurd cc
words-line wanted (Journal kept) by is = absurd (not_journal kept 2 is (λ e. cc))
words-line wanted Write by is = absurd cc

-- the line of a fault of the journal that names no number
pub unnumbered-line : (r : Refusal) → IsUnnumbered r → (answer_of r).status ≡ 8 → (answer_of r).note ≡ (journal_answer None).note
unnumbered-line Memory un is = absurd cc
unnumbered-line (Words fault) un is = absurd cc
unnumbered-line (DueRefusal due) un is = absurd (not_due due 8 is (inr (inr (inr (inl refl)))))
unnumbered-line (Other d) un is = absurd cc
unnumbered-line Read un is = absurd cc
unnumbered-line (Journal None) un is = refl
unnumbered-line (Journal (Some k)) un is = absurd un
unnumbered-line Write un is = absurd cc

-- the statuses of a sample
pub sample-status : (r : Refusal) → IsOfSample r → ((answer_of r).status ≡ 0) ⊎ (((answer_of r).status ≡ 1) ⊎ ((answer_of r).status ≡ 9))
sample-status Memory of = inr (inl refl)
sample-status (Words fault) of = absurd of
sample-status (DueRefusal due) of = absurd of
sample-status (Other d) of = absurd of
sample-status Read of = absurd of
sample-status (Journal kept) of = absurd of
sample-status Write of = inr (inr refl)

-- ---- counts

pub read-risen : (r : Refusal) (P Q R : Type 0) → MatchReadOrJournal r P Q R → (answer_of r).status ≡ 7 → P
read-risen Memory P Q R fact is = absurd cc
read-risen (Words fault) P Q R fact is = absurd cc
read-risen (DueRefusal due) P Q R fact is = absurd (not_due due 7 is (inr (inr (inl refl))))
read-risen (Other d) P Q R fact is = absurd cc
read-risen Read P Q R fact is = fact
read-risen (Journal kept) P Q R fact is = absurd (not_journal kept 7 is (λ e. cc))
read-risen Write P Q R fact is = absurd cc

-- the shelf's count stays beside any other refusal, and beside that of the journal where the words are of no command that sums
pub read-kept : (r : Refusal) (P Q R N : Type 0) → MatchReadOrJournal r P Q R → (N → MatchRead r P R)
    → ((answer_of r).status ≡ 7 → ⊥) → ((answer_of r).status ≡ 8 → ⊥) ⊎ N → R
read-kept Memory P Q R N fact alone not of = fact
read-kept (Words fault) P Q R N fact alone not of = fact
read-kept (DueRefusal due) P Q R N fact alone not of = fact
read-kept (Other d) P Q R N fact alone not of = fact
read-kept Read P Q R N fact alone not of = absurd (not refl)
read-kept (Journal kept) P Q R N fact alone not (inl not_kept) = absurd (not_kept (journal-status kept))
read-kept (Journal kept) P Q R N fact alone not (inr none) = alone none
read-kept Write P Q R N fact alone not of = fact

-- and it never falls
pub read-no_fall : (r : Refusal) (before now : ℕ) → MatchReadOrJournal r (HasRisen before now) (before ≤ now) (now ≡ before)
    → ((answer_of r).status ≡ 7 → ⊥) → before ≤ now
read-no_fall Memory before now fact not = omega (arith, fact)
read-no_fall (Words fault) before now fact not = omega (arith, fact)
read-no_fall (DueRefusal due) before now fact not = omega (arith, fact)
read-no_fall (Other d) before now fact not = omega (arith, fact)
read-no_fall Read before now fact not = absurd (not refl)
read-no_fall (Journal kept) before now fact not = fact
read-no_fall Write before now fact not = omega (arith, fact)

pub journal-risen : (r : Refusal) (P Q : Type 0) → MatchJournal r P Q → (answer_of r).status ≡ 8 → P
journal-risen (DueRefusal due) P Q fact is = absurd (not_due due 8 is (inr (inr (inr (inl refl)))))
journal-risen (Journal kept) P Q fact is = fact
journal-risen _ P Q fact is = absurd cc

pub journal-kept : (r : Refusal) (P Q : Type 0) → MatchJournal r P Q → ((answer_of r).status ≡ 8 → ⊥) → Q
journal-kept (Journal kept) P Q fact not = absurd (not (journal-status kept))
journal-kept _ P Q fact not = fact

-- the disk's count, where the call does not sum and a full journal is no cause
pub journal-or : {T : Type 0} (full : Type 0) (before now : ℕ) (result : Result T Refusal) → CountsJournal before now result → CountsJournalOr full before now result
journal-or full before now (Ok x) counts = counts
journal-or full before now (Err Memory) counts = counts
journal-or full before now (Err (Words fault)) counts = counts
journal-or full before now (Err (DueRefusal due)) counts = counts
journal-or full before now (Err (Other d)) counts = counts
journal-or full before now (Err Read) counts = counts
journal-or full before now (Err (Journal kept)) counts = inl counts
journal-or full before now (Err Write) counts = counts

-- and where the journal is left alone
pub files-journal : (n : ℕ) (result : Result (Unit {0}) Refusal) → IfErr result IsOfFilesOrOutput → CountsJournal n n result
files-journal n (Ok x) stage = refl
files-journal n (Err Memory) stage = refl
files-journal n (Err (Words fault)) stage = absurd stage
files-journal n (Err (DueRefusal due)) stage = refl
files-journal n (Err (Other d)) stage = absurd stage
files-journal n (Err Read) stage = refl
files-journal n (Err (Journal kept)) stage = absurd stage
files-journal n (Err Write) stage = refl

pub write-risen : (r : Refusal) (P Q : Type 0) → MatchWrite r P Q → (answer_of r).status ≡ 9 → P
write-risen (DueRefusal due) P Q fact is = absurd (not_due due 9 is (inr (inr (inr (inr refl)))))
write-risen (Journal kept) P Q fact is = absurd (not_journal kept 9 is (λ e. cc))
write-risen Write P Q fact is = fact
write-risen _ P Q fact is = absurd cc

pub write-kept : (r : Refusal) (P Q : Type 0) → MatchWrite r P Q → ((answer_of r).status ≡ 9 → ⊥) → Q
write-kept Write P Q fact not = absurd (not refl)
write-kept _ P Q fact not = fact

-- ---- verdicts

-- an image that is blank or of the job's form is not foreign
ours-not : (files : Files) (call : Call) (image : List ℕ) → IsOursFor files call image → IsForeign files call image → ⊥
ours-not files call image (kept, inl blank) foreign = let never : true ≡ false = sym blank.0 ∙ foreign.begun in cc
ours-not files call image (kept, inr read) foreign = foreign.unread read.0 read.1

-- nor is one with fewer than 2^62 bytes so long that it may be full
short-not : (image : List ℕ) → length image < 2 ^ 62 → 2 ^ 62 ≤ length image → ⊥
short-not image short long = omega (arith, short, long)

module _ (outcomes : Outcomes Task) (one : AreOne outcomes) where
  pub task-not : (task : Task) (answer : Answer) → outcomes (Ok task) → outcomes (Err answer) → ⊥
  task-not task answer p q = let h : Ok task ≡ Err answer = one (Ok task) (Err answer) p q in cc

  pub tasks-same : (a b : Task) → outcomes (Ok a) → outcomes (Ok b) → a ≡ b
  tasks-same a b p q = let h : Ok a ≡ Ok b = one (Ok a) (Ok b) p q in cc

  pub calls-same : (a b : Call) → outcomes (Ok (OfJob a)) → outcomes (Ok (OfJob b)) → a ≡ b
  calls-same a b p q = one-job a b (tasks-same (OfJob a) (OfJob b) p q)

  answers-same : (a b : Answer) → outcomes (Err a) → outcomes (Err b) → a ≡ b
  answers-same a b p q =
      let x : Result Task Answer = Err a in
      let y : Result Task Answer = Err b in
      let h : x ≡ y = one x y p q in
      cc

  -- a journal that was opened is not another job's
  opened-not : (files : Files) (a : Task) (b : Call) (journal : Option (List ℕ)) (image : List ℕ) → outcomes (Ok a) → outcomes (Ok (OfJob b)) → IsOpened files a journal
      → journal ≡ Some image → IsForeign files b image → ⊥
  opened-not files a b journal image p q opened is foreign =
      let at : IsOpened files (OfJob b) journal = subst (λ (t : Task). IsOpened files t journal) (tasks-same a (OfJob b) p q) opened in
      ours-not files b image (told_value journal (IsOursFor files b) image is at) foreign

  pub verdict-done : {D : Type 0} (files : Files) (seen : D → Option (List ℕ)) (moment : D → ℕ) (may_leave : D → ℕ → List ℕ → Type 0) (before after : D) (old new : Option (List ℕ))
      (read_fault journal_fault write_fault : Type 0) → IsDone outcomes files seen moment may_leave before after old new
      → IsVerdict outcomes files (seen before) 0 read_fault journal_fault write_fault
  verdict-done files seen moment may_leave before after old new read_fault journal_fault write_fault done = record {
    due = λ is. absurd (due-not 0 0 (inr is) refl (inl refl));
    refused = λ answer fact. absurd (task-not done.task answer done.outcome fact);
    other = λ is. absurd cc;
    foreign = λ call image there is foreign. absurd (opened-not files done.task call (seen before) image done.outcome there done.opened is foreign);
    complete = λ _ _ _ _ _. inl refl;
  }

  -- a verdict on words and files
  verdict-of : (files : Files) (first : Answer) (before : Option (List ℕ)) (read_fault journal_fault write_fault : Type 0)
      → outcomes (Err first) → IsVerdictStatus first.status → IsVerdict outcomes files before first.status read_fault journal_fault write_fault
  verdict-of files first before read_fault journal_fault write_fault cause is = record {
    due = λ _. (first, cause, refl);
    refused = λ answer fact. inl (ap (λ (a : Answer). a.status) (answers-same first answer cause fact));
    other = λ ten. absurd (not-ten first.status is ten);
    foreign = λ call image there _ _. absurd (task-not (OfJob call) first there cause);
    complete = λ task there _ _ _. absurd (task-not task first there cause);
  }
    where
      not-ten : (status : ℕ) → IsVerdictStatus status → status ≡ 10 → ⊥
      not-ten status is ten = grind arith

  verdict-other : (files : Files) (d : Differs) (before : Option (List ℕ)) (read_fault journal_fault write_fault : Type 0) → IsOtherCause outcomes files before d
      → IsVerdict outcomes files before 10 read_fault journal_fault write_fault
  verdict-other files d before read_fault journal_fault write_fault cause = record {
    due = λ is. absurd (ten-not 10 is refl);
    refused = λ answer fact. absurd (task-not (OfJob cause.call) answer cause.outcome fact);
    other = λ _. (cause.call, cause.outcome, foreign before cause.other);
    foreign = λ _ _ _ _ _. inl refl;
    complete = λ task there _ _ usable. absurd (unusable task there usable);
  }
    where
      ten-not : (status : ℕ) → IsVerdictStatus status → status ≡ 10 → ⊥
      ten-not status is ten = grind arith

      foreign : (o : Option (List ℕ)) → WhereTold o (λ image. IsOther (identity_for files cause.call) (sizes_for cause.call) image d) → WhereTold o (IsForeign files cause.call)
      foreign None other = tt
      foreign (Some image) other = record { begun = other.begun; unread = other.unread }

      unusable : (task : Task) → outcomes (Ok task) → IsUsable files task before journal_fault → ⊥
      unusable task there usable =
          let same : task ≡ OfJob cause.call = tasks-same task (OfJob cause.call) there cause.outcome in
          let usable_here : IsUsable files (OfJob cause.call) before journal_fault = subst (λ (t : Task). IsUsable files t before journal_fault) same usable in
          ours-not files cause.call usable_here.image usable_here.ours (told_value before (IsForeign files cause.call) usable_here.image usable_here.read (foreign before cause.other))

  verdict-refused : (files : Files) (images : List ℕ → Type 0) (before after old new : Option (List ℕ)) (read_fault journal_fault write_fault same P Q R S : Type 0) (r : Refusal)
      → IsCauseOf r outcomes files images before after old new → MatchReadOrJournal r read_fault P Q
      → MatchJournal r (journal_fault ⊎ (same × IsFullFor outcomes files before after)) R → MatchWrite r write_fault S
      → IsVerdict outcomes files before (answer_of r).status read_fault journal_fault write_fault
  verdict-refused files images before after old new read_fault journal_fault write_fault same P Q R S Memory cause reads journal writes = record {
    due = λ is. absurd (due-not 1 1 (inr is) refl (inr (inl refl)));
    refused = λ _ _. inr (inl refl);
    other = λ is. absurd cc;
    foreign = λ _ _ _ _ _. inr (inl refl);
    complete = λ _ _ _ _ _. inr refl;
  }
  verdict-refused files images before after old new read_fault journal_fault write_fault same P Q R S (Words fault) cause reads journal writes =
      verdict-of files (words_answer fault) before read_fault journal_fault write_fault cause (inl refl)
  verdict-refused files images before after old new read_fault journal_fault write_fault same P Q R S (DueRefusal due) cause reads journal writes =
      verdict-of files (due_answer due) before read_fault journal_fault write_fault cause (due-verdict due)
  verdict-refused files images before after old new read_fault journal_fault write_fault same P Q R S (Other d) cause reads journal writes =
      verdict-other files d before read_fault journal_fault write_fault cause
  verdict-refused files images before after old new read_fault journal_fault write_fault same P Q R S Read cause reads journal writes = record {
    due = λ is. absurd (due-not 7 7 (inr is) refl (inr (inr (inl refl))));
    refused = λ _ _. inr (inr refl);
    other = λ is. absurd cc;
    foreign = λ _ _ _ _ _. inr (inr (inl refl));
    complete = λ _ _ no_read _ _. absurd (no_read reads);
  }
  verdict-refused files images before after old new read_fault journal_fault write_fault same P Q R S (Journal kept) cause reads journal writes =
      subst (λ (status : ℕ). IsVerdict outcomes files before status read_fault journal_fault write_fault) (sym (journal-status kept)) (record {
        due = λ is. absurd (due-not 8 8 (inr is) refl (inr (inr (inr (inl refl)))));
        refused = λ answer fact. absurd (task-not (OfJob cause.call) answer cause.outcome fact);
        other = λ is. absurd cc;
        foreign = λ _ _ _ _ _. inr (inr (inr refl));
        complete = λ task there _ _ usable. absurd (unusable journal task there usable);
      })
    where
      -- of a full journal
      full-not : (full : IsFullFor outcomes files before after) (task : Task) → outcomes (Ok task) → IsUsable files task before journal_fault → ⊥
      full-not full task there usable =
          let is : task ≡ OfJob full.call = tasks-same task (OfJob full.call) there full.outcome in
          let here : IsUsable files (OfJob full.call) before journal_fault = subst (λ (t : Task). IsUsable files t before journal_fault) is usable in
          short-not here.image (here.short full.run) (told_value before (λ image. 2 ^ 62 ≤ length image) here.image here.read full.long)

      unusable : journal_fault ⊎ (same × IsFullFor outcomes files before after) → (task : Task) → outcomes (Ok task) → IsUsable files task before journal_fault → ⊥
      unusable (inl risen) task there usable =
          let is : task ≡ OfJob cause.call = tasks-same task (OfJob cause.call) there cause.outcome in
          let here : IsUsable files (OfJob cause.call) before journal_fault = subst (λ (t : Task). IsUsable files t before journal_fault) is usable in
          here.sound risen
      unusable (inr full) task there usable = full-not full.1 task there usable
  verdict-refused files images before after old new read_fault journal_fault write_fault same P Q R S Write cause reads journal writes = record {
    due = λ is. absurd (due-not 9 9 (inr is) refl (inr (inr (inr (inr refl)))));
    refused = λ answer fact. absurd (task-not cause.task answer cause.outcome fact);
    other = λ is. absurd cc;
    foreign = λ call image there is foreign. absurd (opened-not files cause.task call before image cause.outcome there cause.opened is foreign);
    complete = λ _ _ _ no_write _. absurd (no_write writes);
  }

-- where the shelf tells its files
pub verdict-told : (told : Option Files) (outcomes : Files → Outcomes Task) → ((files : Files) → AreOne (outcomes files)) → (images : List ℕ → Type 0) (before after old new : Option (List ℕ))
    (read_fault journal_fault write_fault same P Q R S : Type 0) (r : Refusal)
    → WhereTold told (λ files. IsCauseOf r (outcomes files) files images before after old new) → MatchReadOrJournal r read_fault P Q
    → MatchJournal r (journal_fault ⊎ (same × WhereTold told (λ files. IsFullFor (outcomes files) files before after))) R → MatchWrite r write_fault S
    → WhereTold told (λ files. IsVerdict (outcomes files) files before (answer_of r).status read_fault journal_fault write_fault)
verdict-told None outcomes one images before after old new read_fault journal_fault write_fault same P Q R S r cause reads journal writes = tt
verdict-told (Some files) outcomes one images before after old new read_fault journal_fault write_fault same P Q R S r cause reads journal writes =
    verdict-refused (outcomes files) (one files) files images before after old new read_fault journal_fault write_fault same P Q R S r cause reads journal writes

-- ---- what is appended

pub appended-done : {D : Type 0} (outcomes : Outcomes Task) (files : Files) (seen : D → Option (List ℕ)) (moment : D → ℕ) (may_leave : D → ℕ → List ℕ → Type 0) (before after : D)
    (old new : Option (List ℕ)) → IsDone outcomes files seen moment may_leave before after old new → IsAppended outcomes files (seen before) (seen after) 0 old new
appended-done outcomes files seen moment may_leave before after old new done = record {
  done = λ _. (done.task, done.outcome, (done.text, done.is, done.told));
  nothing = λ is. absurd (due-not 0 0 is refl (inl refl));
  part = λ is. absurd (grind arith);
  write = λ is. absurd cc;
}

pub appended-refused : (outcomes : Outcomes Task) (files : Files) (before after old new : Option (List ℕ)) (r : Refusal) → IsPartly r outcomes files before after old new
    → IsAppended outcomes files before after (answer_of r).status old new
appended-refused outcomes files before after old new Memory part = record {
  done = λ is. absurd cc;
  nothing = λ is. absurd (due-not 1 1 is refl (inr (inl refl)));
  part = λ _. part;
  write = λ is. absurd cc;
}
appended-refused outcomes files before after old new (Words fault) part = record {
  done = λ is. absurd cc;
  nothing = λ _. part;
  part = λ _. inl part;
  write = λ is. absurd cc;
}
appended-refused outcomes files before after old new (DueRefusal due) part = record {
  done = λ is. absurd (not_due due 0 is (inl refl));
  nothing = λ _. part;
  part = λ _. inl part;
  write = λ is. absurd (not_due due 9 is (inr (inr (inr (inr refl)))));
}
appended-refused outcomes files before after old new (Other d) part = record {
  done = λ is. absurd cc;
  nothing = λ _. part;
  part = λ _. inl part;
  write = λ is. absurd cc;
}
appended-refused outcomes files before after old new Read part = record {
  done = λ is. absurd cc;
  nothing = λ is. absurd (due-not 7 7 is refl (inr (inr (inl refl))));
  part = λ _. part;
  write = λ is. absurd cc;
}
appended-refused outcomes files before after old new (Journal kept) part =
    subst (λ (status : ℕ). IsAppended outcomes files before after status old new) (sym (journal-status kept)) (record {
      done = λ is. absurd cc;
      nothing = λ is. absurd (due-not 8 8 is refl (inr (inr (inr (inl refl)))));
      part = λ _. part;
      write = λ is. absurd cc;
    })
appended-refused outcomes files before after old new Write part = record {
  done = λ is. absurd cc;
  nothing = λ is. absurd (due-not 9 9 is refl (inr (inr (inr (inr refl)))));
  part = λ is. absurd (grind arith);
  write = λ _. part;
}

-- with the statuses of what is wrong nothing
pub due-nothing : (r : Refusal) (P : Type 0) → MatchDue r P → IsDueStatus (answer_of r).status → P
due-nothing Memory P fact is = absurd (due-not 1 1 is refl (inr (inl refl)))
due-nothing (Words fault) P fact is = fact
due-nothing (DueRefusal due) P fact is = fact
due-nothing (Other d) P fact is = fact
due-nothing Read P fact is = absurd (due-not 7 7 is refl (inr (inr (inl refl))))
due-nothing (Journal kept) P fact is = absurd (due-not _ 8 is (journal-status kept) (inr (inr (inr (inl refl)))))
due-nothing Write P fact is = absurd (due-not 9 9 is refl (inr (inr (inr (inr refl)))))

-- with want of memory and with a read fault
pub early-nothing : (r : Refusal) (P : Type 0) → MatchEarly r P → ((answer_of r).status ≡ 1) ⊎ ((answer_of r).status ≡ 7) → P
early-nothing Memory P fact is = fact
early-nothing (Words fault) P fact (inl is) = absurd cc
early-nothing (DueRefusal due) P fact (inl is) = absurd (not_due due 1 is (inr (inl refl)))
early-nothing (Other d) P fact (inl is) = absurd cc
early-nothing (Words fault) P fact (inr is) = absurd cc
early-nothing (DueRefusal due) P fact (inr is) = absurd (not_due due 7 is (inr (inr (inl refl))))
early-nothing (Other d) P fact (inr is) = absurd cc
early-nothing Read P fact is = fact
early-nothing (Journal kept) P fact (inl is) = absurd (not_journal kept 1 is (λ e. cc))
early-nothing (Journal kept) P fact (inr is) = absurd (not_journal kept 7 is (λ e. cc))
early-nothing Write P fact (inl is) = absurd cc
early-nothing Write P fact (inr is) = absurd cc

-- with want of memory
pub memory-nothing : (r : Refusal) (P : Type 0) → WhereMemory r P → (answer_of r).status ≡ 1 → P
memory-nothing Memory P fact is = fact
memory-nothing (Words fault) P fact is = absurd cc
memory-nothing (DueRefusal due) P fact is = absurd (not_due due 1 is (inr (inl refl)))
memory-nothing (Other d) P fact is = absurd cc
memory-nothing Read P fact is = absurd cc
memory-nothing (Journal kept) P fact is = absurd (not_journal kept 1 is (λ e. cc))
memory-nothing Write P fact is = absurd cc

pub verdict-not : (status other : ℕ) → IsVerdictStatus status → status ≡ other → (other ≡ 10) ⊎ ((other ≡ 0) ⊎ ((other ≡ 1) ⊎ ((other ≡ 7) ⊎ ((other ≡ 8) ⊎ (other ≡ 9))))) → ⊥
verdict-not status other is same of = grind arith

-- with the statuses of what is wrong with words and files, and with that of another job's journal
pub verdict-fact : (r : Refusal) (P Q : Type 0) → MatchVerdict r P Q → IsVerdictStatus (answer_of r).status → Q
verdict-fact Memory P Q fact is = absurd (due-not 1 1 (inr is) refl (inr (inl refl)))
verdict-fact (Words fault) P Q fact is = fact
verdict-fact (DueRefusal due) P Q fact is = fact
verdict-fact (Other d) P Q fact is = absurd (verdict-not 10 10 is refl (inl refl))
verdict-fact Read P Q fact is = absurd (due-not 7 7 (inr is) refl (inr (inr (inl refl))))
verdict-fact (Journal kept) P Q fact is = absurd (due-not _ 8 (inr is) (journal-status kept) (inr (inr (inr (inl refl)))))
verdict-fact Write P Q fact is = absurd (due-not 9 9 (inr is) refl (inr (inr (inr (inr refl)))))

pub other-fact : (r : Refusal) (P Q : Type 0) → MatchVerdict r P Q → (answer_of r).status ≡ 10 → P
other-fact Memory P Q fact is = absurd cc
other-fact (Words fault) P Q fact is = absurd cc
other-fact (DueRefusal due) P Q fact is = absurd (files-not (due_answer due).status 10 (due-files due) is (inr refl))
other-fact (Other d) P Q fact is = fact
other-fact Read P Q fact is = absurd cc
other-fact (Journal kept) P Q fact is = absurd (not_journal kept 10 is (λ e. cc))
other-fact Write P Q fact is = absurd cc

-- ---- the journal

module _ {D : Type 0} (seen : D → Option (List ℕ)) (moment : D → ℕ) (may_leave : D → ℕ → List ℕ → Type 0) where
  -- a call that continues its job, by what happened to the journal
  goes-call : (outcomes : Outcomes Task) (one : AreOne outcomes) (files : Files) (before after : D) (call : Call) → outcomes (Ok (OfJob call))
      → Goes outcomes files seen moment may_leave before after
      → Changes seen moment may_leave (Extends (IsSummedFor files call) (identity_for files call) (sizes_for call)) before after
  goes-call outcomes one files before after call there (inl looks) =
      changes_looks seen moment may_leave (Extends (IsSummedFor files call) (identity_for files call) (sizes_for call))
      (λ v. inl (λ kept. (λ keeps. keeps, λ keeps. keeps))) before after looks
  goes-call outcomes one files before after call there (inr running) =
      subst (λ (c : Call). Changes seen moment may_leave (Extends (IsSummedFor files c) (identity_for files c) (sizes_for c)) before after)
      (calls-same outcomes one running.call call running.outcome there) running.changes

  -- where each step keeps what is honest and loses no epoch
  stays-by : (files : Files) (call : Call) (status : ℕ) (step : List ℕ → List ℕ → Type 0) (before after : D) → Runs moment may_leave step before after
      → ((v image : List ℕ) → IsHonest files call v → step v image → IsHonest files call image)
      → ((v image : List ℕ) (n : ℕ) → KeepsAtLeast files call v n → step v image → KeepsAtLeast files call image n)
      → ((image : List ℕ) → may_leave before (moment before) image → IsHonest files call image)
      → (status ≡ 0 → (image : List ℕ) → may_leave after (moment after) image → KeepsAll files call image)
      → StaysHonest files call status moment may_leave before after
  stays-by files call status step before after runs honest least begun all = record {
    later = runs.later;
    past = runs.past;
    honest = always moment may_leave (IsHonest files call) step before after runs begun honest;
    never_falls = none_lost files call moment may_leave step before after least runs;
    all = all;
  }

  stays-honest : (outcomes : Outcomes Task) (one : AreOne outcomes) (files : Files) (before after : D) (status : ℕ)
      → Goes outcomes files seen moment may_leave before after → GoesRanged outcomes seen moment may_leave before after
      → ((call : Call) → outcomes (Ok (OfJob call)) → call.sums ≡ true → status ≡ 0 → (image : List ℕ) → may_leave after (moment after) image → KeepsAll files call image)
      → Restarts outcomes files status moment may_leave before after
  stays-honest outcomes one files before after status goes (inl looks) all call there continues =
      stays-by files call status Same before after looks.runs
      (λ v image honest same. subst (IsHonest files call) (sym same) honest)
      (λ v image n least same. subst (λ (w : List ℕ). KeepsAtLeast files call w n) (sym same) least)
      continues.honest (all call there continues.run)
  stays-honest outcomes one files before after status goes (inr ranged) all call there continues =
      let same : ranged.call ≡ call = calls-same outcomes one ranged.call call ranged.outcome there in
      let ranges : IsPlan call.plan = subst (λ (c : Call). IsPlan c.plan) same ranged.ranges in
      let few : length call.plan.scans ≤ 8388608 = subst (λ (c : Call). length c.plan.scans ≤ 8388608) same ranged.few in
      let changes = goes-call outcomes one files before after call there goes in
      stays-by files call status (Extends (IsSummedFor files call) (identity_for files call) (sizes_for call)) before after changes.runs
      (honest-extends files call ranges few) (least-extends files call ranges few) continues.honest (all call there continues.run)

  -- where the shelf tells its files
  pub restarts-told : (told : Option Files) (outcomes : Files → Outcomes Task) → ((files : Files) → AreOne (outcomes files)) → (before after : D) (status : ℕ)
      → WhereTold told (λ files. Goes (outcomes files) files seen moment may_leave before after)
      → WhereTold told (λ files. GoesRanged (outcomes files) seen moment may_leave before after)
      → WhereTold told (λ files. (call : Call) → outcomes files (Ok (OfJob call)) → call.sums ≡ true → status ≡ 0 → (image : List ℕ) → may_leave after (moment after) image → KeepsAll files call image)
      → WhereTold told (λ files. Restarts (outcomes files) files status moment may_leave before after)
  restarts-told None outcomes one before after status goes ranged all = tt
  restarts-told (Some files) outcomes one before after status goes ranged all = stays-honest (outcomes files) (one files) files before after status goes ranged all

  pub all-done : (outcomes : Outcomes Task) (one : AreOne outcomes) (files : Files) (before after : D) (old new : Option (List ℕ)) → IsDone outcomes files seen moment may_leave before after old new
      → (call : Call) → outcomes (Ok (OfJob call)) → call.sums ≡ true → ◌≡◌ {A = ℕ} 0 0 → (image : List ℕ) → may_leave after (moment after) image → KeepsAll files call image
  all-done outcomes one files before after old new done call there run zero image now =
      done.all call (tasks-same outcomes one done.task (OfJob call) done.outcome there) run image now

  pub headline-done : (outcomes : Outcomes Task) (one : AreOne outcomes) (files : Files) (before after : D) (old new : Option (List ℕ)) → WhereTold (seen before) (may_leave before (moment before))
      → IsDone outcomes files seen moment may_leave before after old new
      → WhereTold (seen before) (λ image. (call : Call) → outcomes (Ok (OfJob call)) → Continues files call (may_leave before (moment before)) → ◌≡◌ {A = ℕ} 0 0 → new ≡ more old (end_text files call))
  headline-done outcomes one files before after old new law done = by (seen before) law done.sums
    where
      by : (o : Option (List ℕ)) → WhereTold o (may_leave before (moment before))
          → ((call : Call) → done.task ≡ OfJob call → call.sums ≡ true → WhereTold o (λ image. IsHonest files call image → new ≡ more old (end_text files call)))
          → WhereTold o (λ image. (call : Call) → outcomes (Ok (OfJob call)) → Continues files call (may_leave before (moment before)) → ◌≡◌ {A = ℕ} 0 0 → new ≡ more old (end_text files call))
      by None now sums = tt
      by (Some image) now sums = λ call there continues zero.
          sums call (tasks-same outcomes one done.task (OfJob call) done.outcome there) continues.run (continues.honest image now)

  pub headline-refused : (P : List ℕ → Call → Type 0) (status : ℕ) (o : Option (List ℕ)) (outcomes : Outcomes Task) (Q : Call → Type 0) → (status ≡ 0 → ⊥)
      → WhereTold o (λ image. (call : Call) → outcomes (Ok (OfJob call)) → Q call → status ≡ 0 → P image call)
  headline-refused P status None outcomes Q not = tt
  headline-refused P status (Some image) outcomes Q not = λ call there q zero. absurd (not zero)

pub refusal-not-zero : (r : Refusal) → (answer_of r).status ≡ 0 → ⊥
refusal-not-zero Memory is = cc
refusal-not-zero (Words fault) is = cc
refusal-not-zero (DueRefusal due) is = not_due due 0 is (inl refl)
refusal-not-zero (Other d) is = cc
refusal-not-zero Read is = cc
refusal-not-zero (Journal kept) is = not_journal kept 0 is (λ e. cc)
refusal-not-zero Write is = cc

-- ---- notes

pub line-refused : (outcomes : Outcomes Task) (files : Files) (images : List ℕ → Type 0) (before after old new : Option (List ℕ)) (r : Refusal)
    → IsCauseOf r outcomes files images before after old new → IsLineOf outcomes files before (answer_of r).status (answer_of r).note
line-refused outcomes files images before after old new Memory cause = inl (inr (inl (refl, refl)))
line-refused outcomes files images before after old new (Words fault) cause = inr (inr (inl refl, (words_answer fault, cause, (refl, refl))))
line-refused outcomes files images before after old new (DueRefusal due) cause = inr (inr (due-verdict due, (due_answer due, cause, (refl, refl))))
line-refused outcomes files images before after old new (Other d) cause =
    inr (inl (refl, record { call = cause.call; outcome = cause.outcome; differs = d; other = cause.other; line_is = refl }))
line-refused outcomes files images before after old new Read cause = inl (inr (inr (inl (refl, refl))))
line-refused outcomes files images before after old new (Journal None) cause = inl (inr (inr (inr (inl (refl, (None, refl))))))
line-refused outcomes files images before after old new (Journal (Some k)) cause = inl (inr (inr (inr (inl (refl, (Some k, refl))))))
line-refused outcomes files images before after old new Write cause = inl (inr (inr (inr (inr (refl, refl)))))

more-none : (told : Option (List ℕ)) → told ≡ more told []
more-none None = refl
more-none (Some told) = ap Some (sym (append-nil told))

pub noted-nothing : (told : Option (List ℕ)) (fault : Type 0) → IsNoted [] told told fault
noted-nothing told fault = record {
  part = record { count = 0; within = omega arith; appended = more-none told };
  all = λ _. more-none told;
}

pub noted-appends : {T E : Type 0} (text : List ℕ) (old new : Option (List ℕ)) (before now : ℕ) (r : Result T E) → Appends old new text before now r
    → IsNoted text old new (HasRisen before now)
noted-appends {T} {E} text old new before now r appends = record {
  part = Appends-part r appends;
  all = by r appends;
}
  where
    by : (r : Result T E) → Appends old new text before now r → ¬ HasRisen before now → new ≡ more old text
    by (Ok x) appends not = appends.ok
    by (Err e) appends not = absurd (not appends.counts.risen)
