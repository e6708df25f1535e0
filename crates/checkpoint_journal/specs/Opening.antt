-- What an opening and a look answer for what they find.
use Rattle.std.specs.Prelude.{◌≡◌, ◌≢◌, ℕ, ◌+◌, ◌≤◌, true, false, List, length, option_map, Option, None, IfSome, Result, Ok, Err}
use Rattle.dev_traits.specs.declared.Failed.{Failed}
use Rattle.dev_traits.specs.Told.{WhereTold}
use Rattle.piece_plan.specs.Epochs.{JobSizes}
use Rattle.piece_plan.specs.Order.{job_start}
use Rattle.plan_places.specs.Places.{place_at, IsPlace}
use Rattle.checkpoint_journal.specs.declared.fault.OpenFault.{OpenFault}
use Rattle.checkpoint_journal.specs.declared.fault.OpenFault.TheVariants.{Disk, Other as OtherJob}
use Rattle.checkpoint_journal.specs.declared.finding.Found.{Found}
use Rattle.checkpoint_journal.specs.declared.finding.Finding.{Finding}
use Rattle.checkpoint_journal.specs.declared.finding.Finding.TheVariants.{Blank, Ours, Other as OtherFile}
use Rattle.checkpoint_journal.specs.declared.opening.Opening.{Opening}
use Rattle.checkpoint_journal.specs.declared.opening.Opening.TheVariants.{Ready, Other, Full}
use Rattle.checkpoint_journal.specs.declared.seen.Seen.{Seen}
use Rattle.checkpoint_journal.specs.Faults.{LacksRoom}
use Rattle.checkpoint_journal.specs.Finding.{IsFound, IsOther, HasPlace}
use Rattle.checkpoint_journal.specs.Standing.{JournalState, IsFirst}

-- What an opening gives, from what was read before it and what is read after: a journal of this job with this last gate, a
-- file that is left as it was, or an old journal without room for its mark.
abbrev pub Opens : List ℕ → JobSizes → Option (List ℕ) → Option (List ℕ) → Opening → Type 0
Opens id job old new (Ready f) = WhereTold new (λ image. IsFound id job image f)
Opens id job old new (Other d) = (new ≡ old) × WhereTold old (λ image. IsOther id job image d)
Opens id job old new Full = WhereTold old (LacksRoom id job)

-- Behind a gate a record carries its range, or the job ends. The gate stands behind the identity, and a place of the job is
-- due there.
pub record IsReady (id : List ℕ) (job : JobSizes) (f : Found) : Type 0 where
  pub place : HasPlace job f
  pub turned : f.next ≢ None → f.ranged ≡ true
  pub behind : 1 + length id ≤ f.gate

-- so it is at the last gate of a journal that was opened, also where the disk does not tell its content
abbrev pub OpensReady : List ℕ → JobSizes → Opening → Type 0
OpensReady id job (Ready f) = IsReady id job f
OpensReady id job (Other d) = Unit {0}
OpensReady id job Full = Unit {0}

-- a journal that was opened just now, with this last gate: the first epoch is the next one that is read
pub record IsOpened (id : List ℕ) (job : JobSizes) (end : Found) (j : JournalState) : Type 0 where
  pub first : IsFirst id job j.first
  pub place : HasPlace job j.first
  pub version : j.first.old ≡ end.old
  pub last : j.end ≡ end
  pub here : j.here ≡ j.first
  pub sound : j.failed ≡ false

-- What an opening answers. Another job's file is refused with the first place that differs, and want of room for a mark is
-- a fault of the disk.
abbrev pub AnswersOpening : List ℕ → JobSizes → Result Opening Failed → Result JournalState OpenFault → Type 0
AnswersOpening id job (Ok (Ready f)) (Ok j) = IsOpened id job f j
AnswersOpening id job (Ok (Ready f)) (Err fault) = ⊥
AnswersOpening id job (Ok (Other d)) answer = answer ≡ Err (OtherJob d)
AnswersOpening id job (Ok Full) answer = answer ≡ Err Disk
AnswersOpening id job (Err fault) answer = answer ≡ Err Disk

-- nothing is kept, and the job's first place comes next
pub record SeesNothing (job : JobSizes) (s : Seen) : Type 0 where
  pub kept : s.kept ≡ 0
  pub next : option_map place_at s.next ≡ job_start job
  pub place : IfSome s.next (λ p. IsPlace job (place_at p))

-- what a look answers
abbrev pub AnswersLook : JobSizes → Result Finding Failed → Result Seen OpenFault → Type 0
AnswersLook job (Ok Blank) (Ok s) = SeesNothing job s
AnswersLook job (Ok Blank) (Err fault) = ⊥
AnswersLook job (Ok (Ours f)) answer = answer ≡ Ok (record { kept = f.kept; next = f.next })
AnswersLook job (Ok (OtherFile d)) answer = answer ≡ Err (OtherJob d)
AnswersLook job (Err fault) answer = answer ≡ Err Disk
