-- The file of a VEX text, or its fault.
use Rattle.std.specs.Prelude.{◌≡◌, ◌⊎◌, ℕ, List, Result, Ok, Err, MatchResult}
use Rattle.vex_lex.specs.declared.token.Token.{Token}
use Rattle.vex_lex.specs.declared.fault.LexKind.{LexKind}
use Rattle.vex_lex.specs.Grammar.{Lexes, Breaks}
use Rattle.vex_reader.specs.declared.fault.VexKind.TheVariants.{Lex}
use Rattle.vex_reader.specs.declared.fault.VexFault.{VexFault}
use Rattle.vex_reader.specs.declared.file.VexFile.{VexFile}
use Rattle.vex_reader.specs.Fault.{out_of_memory}
use Rattle.vex_reader.specs.Reading.{reading}

-- The answer is the one that is due, or want of memory.
abbrev pub Answers : Result VexFile VexFault → Result VexFile VexFault → Type 0
Answers due answer = MatchResult answer (λ file. due ≡ Ok file) (λ fault. (fault ≡ out_of_memory) ⊎ (due ≡ Err fault))

-- The text's statements say this file.
pub record IsFileOf (text : List ℕ) (file : VexFile) : Type 0 where
  pub tokens : List Token
  pub lexes : Lexes text tokens
  pub says : reading text tokens ≡ Ok file

-- The text breaks a rule of the tokens there.
pub record IsLexFaultOf (text : List ℕ) (fault : VexFault) : Type 0 where
  pub rule : LexKind
  pub kind : fault.kind ≡ Lex rule
  pub breaks : Breaks text rule fault.at

-- The text has tokens, and this is the first fault of its statements.
pub record IsReadingFaultOf (text : List ℕ) (fault : VexFault) : Type 0 where
  pub tokens : List Token
  pub lexes : Lexes text tokens
  pub says : reading text tokens ≡ Err fault

-- The fault of the text: of its tokens, or else of its statements.
abbrev pub IsVexFaultOf : List ℕ → VexFault → Type 0
IsVexFaultOf text fault = IsLexFaultOf text fault ⊎ IsReadingFaultOf text fault

-- The answer is this file, or want of memory.
abbrev pub GivesFile : Result VexFile VexFault → VexFile → Type 0
GivesFile answer file = MatchResult answer (λ found. found ≡ file) (λ fault. fault ≡ out_of_memory)

-- The answer is this fault, or want of memory.
abbrev pub GivesVexFault : Result VexFile VexFault → VexFault → Type 0
GivesVexFault answer fault = MatchResult answer (λ _. ⊥) (λ found. (found ≡ out_of_memory) ⊎ (found ≡ fault))
