-- Steps that come one behind the other, each of which may be refused.
use Rattle.std.specs.Prelude.{◌≡◌, ◌⊎◌, Option, None, Some, Result, Ok, Err}
use Rattle.run_notes.specs.Answers.{Answer}
use Rattle.run_notes.specs.Refusals.{Outcomes}

-- this outcome and no other
abbrev pub Is : {A : Type 0} → Result A Answer → Outcomes A
Is given outcome = outcome ≡ given

-- a second step that looks at what the first comes to; where the first is refused there is no second
abbrev pub Then : {A B : Type 0} → Outcomes A → (A → Outcomes B) → Outcomes B
Then {A = A} first next (Ok b) = (a : A) × first (Ok a) × next a (Ok b)
Then {A = A} first next (Err answer) = first (Err answer) ⊎ ((a : A) × first (Ok a) × next a (Err answer))

-- an outcome whose fault is written as an answer
abbrev pub answered : {A E : Type 0} → (E → Answer) → Result A E → Result A Answer
answered write (Ok a) = Ok a
answered write (Err fault) = Err (write fault)

-- a thing, unless an answer refuses it
abbrev pub unless : {A : Type 0} → Option Answer → A → Result A Answer
unless None a = Ok a
unless (Some answer) a = Err answer

-- the first of two answers
abbrev pub or_else : Option Answer → Option Answer → Option Answer
or_else None later = later
or_else (Some answer) later = Some answer
