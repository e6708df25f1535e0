-- What the engine's parts say of their faults holds of the refusals that these become.
use Rattle.std.specs.Prelude.{IfOk, IfErr, IfSome}
use Rattle.std.proofs.Common.{◌≡◌, ℕ, List, Option, None, Some, Result, Ok, Err, ap, subst}
use Rattle.dev_traits.specs.Fault.{HasRisen}
use Rattle.dev_traits.specs.Told.{WhereTold}
use Rattle.dev_traits.proofs.ToldLemmas.{WhereTold-weaker}
use Rattle.job_plan.specs.declared.plan.Plan.{Plan}
use Rattle.station_stream.specs.declared.fault.StreamFault.{StreamFault}
use Rattle.station_stream.specs.declared.fault.StreamFault.TheVariants.{Read as StreamRead, Memory as StreamMemory}
use Rattle.station_stream.specs.Faults.{CountsReads as CountsStream}
use Rattle.checkpoint_journal.specs.declared.fault.OpenFault.{OpenFault}
use Rattle.checkpoint_journal.specs.declared.fault.OpenFault.TheVariants.{Disk as OpenDisk, Other as OpenOther, Memory as OpenMemory}
use Rattle.checkpoint_journal.specs.Faults.{IsRefused, CountsLook}
use Rattle.piece_plan.specs.Epochs.{JobSizes}
use Rattle.journal_rounds.specs.declared.fault.ResumeFault.{ResumeFault}
use Rattle.journal_rounds.specs.declared.fault.ResumeFault.TheVariants.{Memory as ResumeMemory, Other as ResumeOther, Read as ResumeRead, Journal as ResumeJournal}
use Rattle.journal_rounds.specs.Refused.{IsRefusedFor as IsResumeFaultFor, KeepsNamed as KeepsFaultNamed}
use Rattle.journal_rounds.specs.Counted.{CountsReadsBeside as CountsResumeReads, CountsJournal as CountsResumeJournal}
use Rattle.journal_records.specs.declared.fault.EmitFault.{EmitFault}
use Rattle.journal_records.specs.declared.fault.EmitFault.TheVariants.{Memory as EmitMemory, Journal as EmitJournal, Write as EmitWrite}
use Rattle.journal_records.specs.Kept.{WritesKept, Grows}
use Rattle.journal_records.specs.Refused.{IsOfRecords as IsEmitFaultOf}
use Rattle.journal_records.specs.Counted.{CountsJournal as CountsEmitJournal, CountsWrites as CountsEmitWrites}
use Rattle.run_notes.specs.Refusals.{MatchJournal}
use Rattle.run_notes.specs.Counted.{CountsReads, CountsReadsBeside, CountsJournal, CountsWrites}
use Rattle.vlbi_core.specs.Engine.{sums_answer, IsOfSums, opening_refusal, resume_answer, emit_answer, IsRefusedFor, KeepsNamed, IsOfRecords}
use Rattle.vlbi_core.specs.Steps.{IsLookedFor, CountsJournalOr}

-- ---- an epoch that is summed

pub summed-ok : {T : Type 0} (q : Result T StreamFault) (P : T → Type 0) → IfOk q P → IfOk (sums_answer q) P
summed-ok (Ok x) P p = p
summed-ok (Err fault) P p = tt

pub summed-stage : {T : Type 0} (q : Result T StreamFault) → IfErr (sums_answer q) IsOfSums
summed-stage (Ok x) = tt
summed-stage (Err StreamRead) = tt
summed-stage (Err StreamMemory) = tt

pub summed-counts : {T : Type 0} (before now : ℕ) (q : Result T StreamFault) → CountsStream before now q → CountsReads before now (sums_answer q)
summed-counts before now (Ok x) counts = counts.kept
summed-counts before now (Err StreamRead) counts = counts.cause
summed-counts before now (Err StreamMemory) counts = counts.cause

-- ---- a journal that is opened to look at it

pub opened-looked : (id : List ℕ) (job : JobSizes) (seen : Option (List ℕ)) (fault : OpenFault) → IsRefused id job seen fault → IsLookedFor id job seen (opening_refusal fault)
opened-looked id job seen OpenDisk of = tt
opened-looked id job seen (OpenOther d) of = of
opened-looked id job seen OpenMemory of = tt

pub opened-counts : (before now : ℕ) (fault : OpenFault) → CountsLook before now fault → MatchJournal (opening_refusal fault) (HasRisen before now) (now ≡ before)
opened-counts before now OpenDisk counts = counts
opened-counts before now (OpenOther d) counts = counts
opened-counts before now OpenMemory counts = counts

-- ---- a journal that is brought to its end

pub resumed-ok : {T : Type 0} (q : Result T ResumeFault) (P : T → Type 0) → IfOk q P → IfOk (resume_answer q) P
resumed-ok (Ok x) P p = p
resumed-ok (Err fault) P p = tt

pub resumed-refused : {T : Type 0} (id : List ℕ) (job : JobSizes) (old new : Option (List ℕ)) (q : Result T ResumeFault)
    → IfErr q (IsResumeFaultFor id job old new) → IfErr (resume_answer q) (IsRefusedFor id job old new)
resumed-refused id job old new (Ok x) of = tt
resumed-refused id job old new (Err ResumeMemory) of = of
resumed-refused id job old new (Err (ResumeOther d)) of = of
resumed-refused id job old new (Err ResumeRead) of = of
resumed-refused id job old new (Err (ResumeJournal kept)) of = of

pub resumed-named : {T : Type 0} (id : List ℕ) (job : JobSizes) (images : List ℕ → Type 0) (q : Result T ResumeFault)
    → IfErr q (KeepsFaultNamed id job images) → IfErr (resume_answer q) (KeepsNamed id job images)
resumed-named id job images (Ok x) named = tt
resumed-named id job images (Err ResumeMemory) named = tt
resumed-named id job images (Err (ResumeOther d)) named = tt
resumed-named id job images (Err ResumeRead) named = tt
resumed-named id job images (Err (ResumeJournal None)) named = tt
resumed-named id job images (Err (ResumeJournal (Some k))) named = named

pub resumed-reads : {T : Type 0} (before now : ℕ) (q : Result T ResumeFault) → CountsResumeReads before now q → CountsReadsBeside before now (resume_answer q)
resumed-reads before now (Ok x) counts = counts
resumed-reads before now (Err ResumeMemory) counts = counts
resumed-reads before now (Err (ResumeOther d)) counts = counts
resumed-reads before now (Err ResumeRead) counts = counts
resumed-reads before now (Err (ResumeJournal kept)) counts = counts

pub resumed-journal : {T : Type 0} (full : Type 0) (before now : ℕ) (q : Result T ResumeFault) → CountsResumeJournal full before now q → CountsJournalOr full before now (resume_answer q)
resumed-journal full before now (Ok x) counts = counts
resumed-journal full before now (Err ResumeMemory) counts = counts
resumed-journal full before now (Err (ResumeOther d)) counts = counts
resumed-journal full before now (Err ResumeRead) counts = counts
resumed-journal full before now (Err (ResumeJournal kept)) counts = counts

-- ---- records that are written

emitted-kept : {T : Type 0} (id : List ℕ) (plan : Plan) (image : List ℕ) (old new : Option (List ℕ)) (q : Result T EmitFault)
    → WritesKept id plan image old new q → WritesKept id plan image old new (emit_answer q)
emitted-kept id plan image old new (Ok x) w = record { kept = w.kept; keeps = w.keeps; appended = record { all = w.appended.all; part = tt } }
emitted-kept id plan image old new (Err fault) w = record { kept = w.kept; keeps = w.keeps; appended = record { all = tt; part = w.appended.part } }

pub emitted-written : {T : Type 0} (seen : Option (List ℕ)) (id : List ℕ) (plan : Plan) (old new : Option (List ℕ)) (q : Result T EmitFault)
    → WhereTold seen (λ image. WritesKept id plan image old new q) → WhereTold seen (λ image. WritesKept id plan image old new (emit_answer q))
emitted-written seen id plan old new q =
    WhereTold-weaker seen (λ image. WritesKept id plan image old new q) (λ image. WritesKept id plan image old new (emit_answer q))
    (λ image w. emitted-kept id plan image old new q w)

pub emitted-grows : {T : Type 0} (old new : Option (List ℕ)) (q : Result T EmitFault) → Grows old new q → Grows old new (emit_answer q)
emitted-grows old new (Ok x) grows = (grows.0, record { all = grows.1.all; part = tt })
emitted-grows old new (Err fault) grows = (grows.0, record { all = tt; part = grows.1.part })

pub emitted-refused : {T : Type 0} (epochs : ℕ) (old new : Option (List ℕ)) (q : Result T EmitFault)
    → IfErr q (IsEmitFaultOf epochs old new) → IfErr (emit_answer q) (IsOfRecords epochs old new)
emitted-refused epochs old new (Ok x) of = tt
emitted-refused epochs old new (Err EmitMemory) of = of
emitted-refused epochs old new (Err (EmitJournal kept)) of = ap Some of
emitted-refused epochs old new (Err EmitWrite) of = tt

pub emitted-journal : {T : Type 0} (before now : ℕ) (q : Result T EmitFault) → CountsEmitJournal before now q → CountsJournal before now (emit_answer q)
emitted-journal before now (Ok x) counts = counts
emitted-journal before now (Err EmitMemory) counts = counts
emitted-journal before now (Err (EmitJournal kept)) counts = counts
emitted-journal before now (Err EmitWrite) counts = counts

pub emitted-writes : {T : Type 0} (before now : ℕ) (q : Result T EmitFault) → CountsEmitWrites before now q → CountsWrites before now (emit_answer q)
emitted-writes before now (Ok x) counts = counts
emitted-writes before now (Err EmitMemory) counts = counts
emitted-writes before now (Err (EmitJournal kept)) counts = counts
emitted-writes before now (Err EmitWrite) counts = counts

-- ---- the job of an order

-- what holds of a job's names holds of those that an order has
pub by-names : (P : List ℕ → Option (List ℕ) → Type 0) (names : Option (List ℕ × Option (List ℕ))) (job : List ℕ) (vex : Option (List ℕ))
    → IfSome names (λ n. job ≡ n.0) → IfSome names (λ n. vex ≡ n.1) → P job vex → IfSome names (λ n. P n.0 n.1)
by-names P None job vex same alike holds = tt
by-names P (Some n) job vex same alike holds = subst (λ (v : Option (List ℕ)). P n.0 v) alike (subst (λ (j : List ℕ). P j vex) same holds)
