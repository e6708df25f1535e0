-- A refusal has the cause that it is for.
use Rattle.std.proofs.Common.{◌≡◌, ◌⊎◌, ◌∙◌, ℕ, List, map, Option, Some, Err, refl, sym, ap, subst, inl, inr}
use Rattle.std.specs.Prelude.{option_map}
use Rattle.vdif_frame.specs.declared.shape.Field.{Field}
use Rattle.scan_list.specs.declared.scan.Scan.{Scan}
use Rattle.corr_model.specs.Files.{Files}
use Rattle.corr_model.specs.Slots.{slots_of}
use Rattle.job_plan.specs.declared.plan.StationPlan.{StationPlan}
use Rattle.frame_index.specs.declared.recording.FileRef.{FileRef}
use Rattle.frame_index.specs.Recording.{bytes_on}
use Rattle.frame_index.specs.declared.fault.IndexFault.{IndexFault}
use Rattle.frame_index.specs.declared.fault.IndexFault.TheVariants.{Read, NoFrameAgrees, TooManySlots, Memory}
use Rattle.frame_index.specs.Faults.{IsFieldOf, CountsFault}
use Rattle.frame_index.specs.Foreign.{foreign_field}
use Rattle.dev_traits.specs.Fault.{HasRisen}
use Rattle.job_text.specs.Job.{JobFields}
use Rattle.job_join.specs.declared.fault.JoinFault.{JoinFault}
use Rattle.job_join.specs.declared.fault.JoinFault.TheVariants.{Memory as JoinMemory}
use Rattle.job_join.specs.Joined.{joined}
use Rattle.run_notes.specs.Answers.{recording_answer}
use Rattle.run_notes.specs.Refusals.{IsCause, MatchRead}
use Rattle.run_notes.specs.declared.refusal.Refusal.{Refusal}
use Rattle.run_ready.specs.Due.{IsDue}
use Rattle.run_ready.specs.Outcome.{cause_name, cause_answer}
use Rattle.run_ready.specs.Recordings.{foreign_answer}
use Rattle.run_ready.specs.Refused.{join_refusal, recording_refusal}
use Rattle.run_ready.specs.Stage.{IsOfFiles, IsOfTexts}
use Rattle.run_ready.specs.Steps.{Is, answered}
use Rattle.run_ready.proofs.FilesLemmas.{foreign_answer-sized}

-- a cause for which a job and a schedule do not go together
pub IsCause-joined : (job : JobFields) (epoch : ℕ) (scans : List Scan) (fault : JoinFault) → (fault ≡ JoinMemory) ⊎ (joined job epoch scans ≡ Err fault)
    → IsCause (join_refusal fault (cause_name job scans fault)) (Is (answered (cause_answer job scans) (joined job epoch scans)))
IsCause-joined job epoch scans fault (inl memory) =
    subst (λ (f : JoinFault). IsCause (join_refusal f (cause_name job scans f)) (Is (answered (cause_answer job scans) (joined job epoch scans)))) (sym memory) tt
IsCause-joined job epoch scans JoinMemory (inr is) = tt
IsCause-joined job epoch scans fault (inr is) = sym (ap (answered (cause_answer job scans)) is)

pub IsOfTexts-joined : (fault : JoinFault) (name : List ℕ) → IsOfTexts (join_refusal fault name)
IsOfTexts-joined JoinMemory name = tt
IsOfTexts-joined fault name = tt

-- a recording of which there is no index
recorded-some : {A : Type 0} (x y : A) → Some x ≡ Some y → x ≡ y
recorded-some x y same = cc

module _ (key : List ℕ) (r : Refusal) where
  pub IsDue-recording : (fault : IndexFault) (v : Option Field) → recording_refusal key fault ≡ Some r → IsFieldOf v fault → IsDue r (option_map (recording_answer key) v)
  IsDue-recording Read v is of = subst (λ (x : Refusal). IsDue x (option_map (recording_answer key) v)) (recorded-some _ r is) tt
  IsDue-recording (NoFrameAgrees field) v is of = subst (λ (x : Refusal). IsDue x (option_map (recording_answer key) v)) (recorded-some _ r is) (ap (option_map (recording_answer key)) of)
  IsDue-recording TooManySlots v is of = absurd cc
  IsDue-recording Memory v is of = subst (λ (x : Refusal). IsDue x (option_map (recording_answer key) v)) (recorded-some _ r is) tt

  pub IsOfFiles-recording : (fault : IndexFault) → recording_refusal key fault ≡ Some r → IsOfFiles r
  IsOfFiles-recording Read is = subst IsOfFiles (recorded-some _ r is) tt
  IsOfFiles-recording (NoFrameAgrees field) is = subst IsOfFiles (recorded-some _ r is) tt
  IsOfFiles-recording TooManySlots is = absurd cc
  IsOfFiles-recording Memory is = subst IsOfFiles (recorded-some _ r is) tt

  pub MatchRead-recording : (fault : IndexFault) (before now : ℕ) → recording_refusal key fault ≡ Some r → CountsFault before now fault
      → MatchRead r (HasRisen before now) (now ≡ before)
  MatchRead-recording Read before now is counts = subst (λ (x : Refusal). MatchRead x (HasRisen before now) (now ≡ before)) (recorded-some _ r is) counts
  MatchRead-recording (NoFrameAgrees field) before now is counts = subst (λ (x : Refusal). MatchRead x (HasRisen before now) (now ≡ before)) (recorded-some _ r is) counts
  MatchRead-recording TooManySlots before now is counts = absurd cc
  MatchRead-recording Memory before now is counts = subst (λ (x : Refusal). MatchRead x (HasRisen before now) (now ≡ before)) (recorded-some _ r is) counts

pub IsDue-foreign : (files : Files) (s : StationPlan) (fs : List FileRef) (key : List ℕ) (r : Refusal) (fault : IndexFault)
    → map (λ (f : FileRef). f.name) fs ≡ s.files → key ≡ s.key → recording_refusal key fault ≡ Some r
    → IsFieldOf (foreign_field s.shape (slots_of s.shape.frame_bytes (bytes_on files fs))) fault → IsDue r (foreign_answer files s)
IsDue-foreign files s fs key r fault names same is of =
    let v : Option Field = foreign_field s.shape (slots_of s.shape.frame_bytes (bytes_on files fs)) in
    subst (IsDue r) (ap (λ (k : List ℕ). option_map (recording_answer k) v) same ∙ sym (foreign_answer-sized files s fs v names refl)) (IsDue-recording key r fault v is of)
