-- What reading and joining may be refused for.
use Rattle.std.specs.Prelude.{⊤}
use Rattle.run_notes.specs.declared.refusal.Refusal.{Refusal}
use Rattle.run_notes.specs.declared.refusal.Refusal.TheVariants.{Words, Other, Read, Journal, Write}

-- anything but a fault of the words, another journal, and a fault of the journal or of the output
abbrev pub IsOfFiles : Refusal → Type 0
IsOfFiles (Words fault) = ⊥
IsOfFiles (Other d) = ⊥
IsOfFiles (Journal kept) = ⊥
IsOfFiles Write = ⊥
IsOfFiles _ = ⊤

-- what a text that is read already may be refused for: anything of these but a read fault
abbrev pub IsOfTexts : Refusal → Type 0
IsOfTexts (Words fault) = ⊥
IsOfTexts (Other d) = ⊥
IsOfTexts Read = ⊥
IsOfTexts (Journal kept) = ⊥
IsOfTexts Write = ⊥
IsOfTexts _ = ⊤
