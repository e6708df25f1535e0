-- What a command did that leaves the journal alone.
use Rattle.std.proofs.Common.{◌≡◌, ℕ, List, Option, Result, Ok, Err, inl, inr}
use Rattle.std.specs.Prelude.{OnOk, OnErr, IfErr}
use Rattle.dev_traits.specs.Told.{more, PrefixMore}
use Rattle.run_notes.specs.declared.refusal.Refusal.{Refusal}
use Rattle.run_notes.specs.declared.refusal.Refusal.TheVariants.{Memory, Words, Due as DueRefusal, Other, Read, Journal, Write}
use Rattle.run_notes.specs.Refusals.{Outcomes, WhereVerdict, WhereMemory}
use Rattle.run_notes.specs.Commands.{Tells, Shows, IsOfFilesOrOutput, IsOfOutput}

-- a command that appends nothing before all is read and taken is one that appends a text
pub shows-tells : {A : Type 0} (outcomes : Outcomes A) (text : A → List ℕ) (old new : Option (List ℕ)) (result : Result (Unit {0}) Refusal)
    → IfErr result IsOfFilesOrOutput → Shows outcomes text old new result → Tells outcomes text old new result
shows-tells outcomes text old new (Ok x) stage shows = record { done = shows.done; cause = tt; part = tt }
shows-tells outcomes text old new (Err Memory) stage shows = record { done = tt; cause = tt; part = inl shows.part }
shows-tells outcomes text old new (Err (Words fault)) stage shows = absurd stage
shows-tells outcomes text old new (Err (DueRefusal due)) stage shows = record { done = tt; cause = shows.cause; part = shows.part }
shows-tells outcomes text old new (Err (Other d)) stage shows = absurd stage
shows-tells outcomes text old new (Err Read) stage shows = record { done = tt; cause = tt; part = inl shows.part }
shows-tells outcomes text old new (Err (Journal kept)) stage shows = absurd stage
shows-tells outcomes text old new (Err Write) stage shows = record { done = tt; cause = shows.cause; part = shows.part }

-- a command that came to its text, and appended it or a first part of it
pub tells-appended : {A : Type 0} (outcomes : Outcomes A) (text : A → List ℕ) (x : A) (old new : Option (List ℕ)) (result : Result (Unit {0}) Refusal)
    → outcomes (Ok x) → OnOk result (new ≡ more old (text x)) → OnErr result (PrefixMore old (text x) new) → IfErr result IsOfOutput
    → Tells outcomes text old new result
tells-appended outcomes text x old new (Ok y) is all part stage = record { done = (x, is, all); cause = tt; part = tt }
tells-appended outcomes text x old new (Err Memory) is all part stage = record { done = tt; cause = tt; part = inr (x, is, part) }
tells-appended outcomes text x old new (Err Read) is all part stage = record { done = tt; cause = tt; part = inr (x, is, part) }
tells-appended outcomes text x old new (Err Write) is all part stage = record { done = tt; cause = (x, is); part = (x, is, part) }
tells-appended outcomes text x old new (Err (Words fault)) is all part stage = absurd stage
tells-appended outcomes text x old new (Err (DueRefusal due)) is all part stage = absurd stage
tells-appended outcomes text x old new (Err (Other d)) is all part stage = absurd stage
tells-appended outcomes text x old new (Err (Journal kept)) is all part stage = absurd stage

-- what holds of all refusals holds where they are verdicts on files, and what is refused for the output is none; and where they are want of
-- memory
pub verdict-refused : (r : Refusal) (P : Type 0) → P → WhereVerdict r P
verdict-refused (DueRefusal due) P p = p
verdict-refused r P p = tt

pub verdict-written : (r : Refusal) (P : Type 0) → IsOfOutput r → WhereVerdict r P
verdict-written (DueRefusal due) P stage = absurd stage
verdict-written r P stage = tt

pub memory-refused : (r : Refusal) (P : Type 0) → P → WhereMemory r P
memory-refused Memory P p = p
memory-refused r P p = tt

pub stage-output : (r : Refusal) → IsOfOutput r → IsOfFilesOrOutput r
stage-output Memory stage = tt
stage-output Read stage = tt
stage-output Write stage = tt
stage-output r stage = absurd stage
