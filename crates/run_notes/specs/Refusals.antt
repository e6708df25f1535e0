-- Refusals: their answers, and what may cause them. There are three classes: want of memory; a verdict on the words, on the files or
-- on the journal, which is due where it is the first that stands; and the fault of a device.
use Rattle.std.specs.Prelude.{⊤, Result, Ok, Err}
use Rattle.run_notes.specs.declared.refusal.Due.{Due}
use Rattle.run_notes.specs.declared.refusal.Due.TheVariants.{Vex, Schedule, Job, Join, Limit, NoFile, Recording, Records, Certificate, Bins, NoPhase, NotShard, Uncovered, Differs}
use Rattle.run_notes.specs.declared.refusal.Refusal.{Refusal}
use Rattle.run_notes.specs.declared.refusal.Refusal.TheVariants.{Memory, Words, Due as DueRefusal, Other, Read, Journal, Write}
use Rattle.run_notes.specs.Answers.{Answer, memory_answer, words_answer, vex_answer, schedule_answer, job_answer, join_answer, limit_answer, no_file_answer, recording_answer, records_answer, certificate_answer, bins_answer, no_phase_answer, not_shard_answer, uncovered_answer, differs_answer, other_answer, read_answer, journal_answer, write_answer}

-- the answer of what is wrong with the files of a call
abbrev pub due_answer : Due → Answer
due_answer (Vex fault) = vex_answer fault
due_answer (Schedule fault) = schedule_answer fault
due_answer (Job fault) = job_answer fault
due_answer (Join fault name) = join_answer fault name
due_answer (Limit measure value) = limit_answer measure value
due_answer (NoFile name) = no_file_answer name
due_answer (Recording key field) = recording_answer key field
due_answer (Records fault) = records_answer fault
due_answer (Certificate at) = certificate_answer at
due_answer (Bins fault) = bins_answer fault
due_answer (NoPhase scan) = no_phase_answer scan
due_answer (NotShard name at) = not_shard_answer name at
due_answer (Uncovered integration) = uncovered_answer integration
due_answer (Differs integration group lag first other) = differs_answer integration group lag first other

abbrev pub answer_of : Refusal → Answer
answer_of Memory = memory_answer
answer_of (Words fault) = words_answer fault
answer_of (DueRefusal due) = due_answer due
answer_of (Other d) = other_answer d
answer_of Read = read_answer
answer_of (Journal kept) = journal_answer kept
answer_of Write = write_answer

-- Of the outcomes that a call may have, as its words and files are: what it comes to, or the answer of its verdict.
abbrev pub Outcomes : Type 0 → Type 1
Outcomes A = Result A Answer → Type 0

-- A refusal has its cause: a verdict is an outcome, a fault of the journal or the output comes only where nothing refuses, and
-- want of memory and a read fault may come at any time.
abbrev pub IsCause : {A : Type 0} → Refusal → Outcomes A → Type 0
IsCause {A} Memory outcomes = ⊤
IsCause {A} (Words fault) outcomes = outcomes (Err (words_answer fault))
IsCause {A} (DueRefusal due) outcomes = outcomes (Err (due_answer due))
IsCause {A} (Other d) outcomes = outcomes (Err (other_answer d))
IsCause {A} Read outcomes = ⊤
IsCause {A} (Journal kept) outcomes = (x : A) × outcomes (Ok x)
IsCause {A} Write outcomes = (x : A) × outcomes (Ok x)

-- want of memory, or the fault of a device
abbrev pub IsNoVerdict : Refusal → Type 0
IsNoVerdict (Words fault) = ⊥
IsNoVerdict (DueRefusal due) = ⊥
IsNoVerdict (Other d) = ⊥
IsNoVerdict _ = ⊤

-- one fact for a fault of the output, another for the rest
abbrev pub MatchWrite : Refusal → Type 0 → Type 0 → Type 0
MatchWrite Write P Q = P
MatchWrite _ P Q = Q

-- one fact for a read fault, another for the rest
abbrev pub MatchRead : Refusal → Type 0 → Type 0 → Type 0
MatchRead Read P Q = P
MatchRead _ P Q = Q

-- one fact for a fault of the journal, another for the rest
abbrev pub MatchJournal : Refusal → Type 0 → Type 0 → Type 0
MatchJournal (Journal kept) P Q = P
MatchJournal _ P Q = Q

-- one fact for a read fault, another for a fault of the journal, a third for the rest
abbrev pub MatchReadOrJournal : Refusal → Type 0 → Type 0 → Type 0 → Type 0
MatchReadOrJournal Read P Q R = P
MatchReadOrJournal (Journal kept) P Q R = Q
MatchReadOrJournal _ P Q R = R

-- a fact where a refusal is a verdict on files
abbrev pub WhereVerdict : Refusal → Type 0 → Type 0
WhereVerdict (DueRefusal due) P = P
WhereVerdict _ P = ⊤

-- a fact where it is want of memory
abbrev pub WhereMemory : Refusal → Type 0 → Type 0
WhereMemory Memory P = P
WhereMemory _ P = ⊤
