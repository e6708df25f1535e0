-- What a command did that leaves the journal alone and appends a text, by what its words and files come to.
use Rattle.std.specs.Prelude.{◌≡◌, ◌⊎◌, ⊤, ℕ, List, Option, Result, Ok, OnOk, IfErr}
use Rattle.dev_traits.specs.Told.{more, PrefixMore}
use Rattle.run_notes.specs.declared.refusal.Refusal.{Refusal}
use Rattle.run_notes.specs.declared.refusal.Refusal.TheVariants.{Memory, Words, Due as DueRefusal, Other, Read, Journal, Write}
use Rattle.run_notes.specs.Refusals.{Outcomes, IsCause, MatchWrite}

-- a first part of the text of what an order comes to
abbrev pub IsPartOf : {A : Type 0} → Outcomes A → (A → List ℕ) → Option (List ℕ) → Option (List ℕ) → Type 0
IsPartOf {A} outcomes text old new = (x : A) × outcomes (Ok x) × PrefixMore old (text x) new

-- what such a command appended where it was refused
abbrev pub IsPartlyOf : {A : Type 0} → Refusal → Outcomes A → (A → List ℕ) → Option (List ℕ) → Option (List ℕ) → Type 0
IsPartlyOf Memory outcomes text old new = (new ≡ old) ⊎ IsPartOf outcomes text old new
IsPartlyOf (Words fault) outcomes text old new = new ≡ old
IsPartlyOf (DueRefusal due) outcomes text old new = new ≡ old
IsPartlyOf (Other d) outcomes text old new = new ≡ old
IsPartlyOf Read outcomes text old new = (new ≡ old) ⊎ IsPartOf outcomes text old new
IsPartlyOf (Journal kept) outcomes text old new = ⊥
IsPartlyOf Write outcomes text old new = IsPartOf outcomes text old new

-- The text of what an order comes to was appended; or the order was refused, with its cause, and with a first part of that text
-- appended or nothing.
pub record Tells {A : Type 0} (outcomes : Outcomes A) (text : A → List ℕ) (old new : Option (List ℕ)) (result : Result (Unit {0}) Refusal) : Type 0 where
  pub done : OnOk result ((x : A) × outcomes (Ok x) × (new ≡ more old (text x)))
  pub cause : IfErr result (λ r. IsCause r outcomes)
  pub part : IfErr result (λ r. IsPartlyOf r outcomes text old new)

-- The same of a command that reads all its files and takes all its memory before its first byte: a first part of the text stands
-- there with a write fault alone, and nothing with any other refusal.
pub record Shows {A : Type 0} (outcomes : Outcomes A) (text : A → List ℕ) (old new : Option (List ℕ)) (result : Result (Unit {0}) Refusal) : Type 0 where
  pub done : OnOk result ((x : A) × outcomes (Ok x) × (new ≡ more old (text x)))
  pub cause : IfErr result (λ r. IsCause r outcomes)
  pub part : IfErr result (λ r. MatchWrite r (IsPartOf outcomes text old new) (new ≡ old))

-- what they may be refused for: anything but a fault of the words, another journal and a fault of the journal
abbrev pub IsOfFilesOrOutput : Refusal → Type 0
IsOfFilesOrOutput (Words fault) = ⊥
IsOfFilesOrOutput (Other d) = ⊥
IsOfFilesOrOutput (Journal kept) = ⊥
IsOfFilesOrOutput _ = ⊤

-- want of memory, and a fault of the shelf or of the output
abbrev pub IsOfOutput : Refusal → Type 0
IsOfOutput Memory = ⊤
IsOfOutput Read = ⊤
IsOfOutput Write = ⊤
IsOfOutput _ = ⊥
