-- Refusals by an answer that may be there.
use Rattle.std.specs.Prelude.{◌≡◌, ⊤, Option, Some}
use Rattle.run_notes.specs.declared.refusal.Refusal.{Refusal}
use Rattle.run_notes.specs.declared.refusal.Refusal.TheVariants.{Memory, Words, Due as DueRefusal, Other, Read, Journal, Write}
use Rattle.run_notes.specs.Answers.{Answer, words_answer, other_answer}
use Rattle.run_notes.specs.Refusals.{due_answer}

-- a verdict is due where it has this answer; want of memory and a read fault may come at any time
abbrev pub IsDue : Refusal → Option Answer → Type 0
IsDue Memory answer = ⊤
IsDue (Words fault) answer = answer ≡ Some (words_answer fault)
IsDue (DueRefusal due) answer = answer ≡ Some (due_answer due)
IsDue (Other d) answer = answer ≡ Some (other_answer d)
IsDue Read answer = ⊤
IsDue (Journal kept) answer = ⊥
IsDue Write answer = ⊥
