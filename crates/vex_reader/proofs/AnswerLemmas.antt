-- A text has one file or one fault, and not both.
use Rattle.std.proofs.Common.{◌≡◌, ◌⊎◌, ⊎_elim, inl, inr, ℕ, List, Result, Ok, Err, IfOk, IfErr, refl, sym, ap, ◌∙◌}
use Rattle.vex_lex.specs.declared.token.Token.{Token}
use Rattle.vex_lex.specs.Grammar.{Lexes}
use Rattle.vex_lex.proofs.Total.{tokens_or_break}
use Rattle.vex_lex.proofs.GrammarLaws.{one_reading, not_both as not_both_tokens, one_break}
use Rattle.vex_reader.specs.declared.fault.VexFault.{VexFault}
use Rattle.vex_reader.specs.declared.fault.VexKind.TheVariants.{Lex}
use Rattle.vex_reader.specs.declared.file.VexFile.{VexFile}
use Rattle.vex_reader.specs.Fault.{out_of_memory}
use Rattle.vex_reader.specs.Reading.{reading}
use Rattle.vex_reader.specs.Grammar.{IsFileOf, IsLexFaultOf, IsReadingFaultOf, IsVexFaultOf, GivesFile, GivesVexFault}

module _ (text : List ℕ) where
  -- two lists of tokens of the text give one answer
  one_answer : (tokens others : List Token) (answer other : Result VexFile VexFault)
      → Lexes text tokens → Lexes text others → reading text tokens ≡ answer → reading text others ≡ other → answer ≡ other
  one_answer tokens others answer other lexes also says tells =
      sym says ∙ ap (reading text) (one_reading text tokens others lexes also) ∙ tells

  pub not_both : (file : VexFile) (fault : VexFault) → IsFileOf text file → IsVexFaultOf text fault → ⊥
  not_both file fault says faulty =
      ⊎_elim
      (λ broken. not_both_tokens text says.tokens broken.rule fault.at says.lexes broken.breaks)
      (λ told. let both = one_answer says.tokens told.tokens (Ok file) (Err fault) says.lexes told.lexes says.says told.says in cc)
      faulty

  pub one_file : (file other : VexFile) → IsFileOf text file → IsFileOf text other → file ≡ other
  one_file file other says also =
      let both = one_answer says.tokens also.tokens (Ok file) (Ok other) says.lexes also.lexes says.says also.says in cc

  one_lex_fault : (fault other : VexFault) → IsLexFaultOf text fault → IsLexFaultOf text other → fault ≡ other
  one_lex_fault fault other broken also =
      let same = one_break text broken.rule also.rule fault.at other.at broken.breaks also.breaks in
      let kind : fault.kind ≡ other.kind = broken.kind ∙ ap Lex same.0 ∙ sym also.kind in
      λ i. record { kind = kind i; at = same.1 i }

  one_reading_fault : (fault other : VexFault) → IsReadingFaultOf text fault → IsReadingFaultOf text other → fault ≡ other
  one_reading_fault fault other told also =
      let both = one_answer told.tokens also.tokens (Err fault) (Err other) told.lexes also.lexes told.says also.says in cc

  pub one_fault : (fault other : VexFault) → IsVexFaultOf text fault → IsVexFaultOf text other → fault ≡ other
  one_fault fault other faulty also =
      ⊎_elim
      (λ broken. ⊎_elim
      (one_lex_fault fault other broken)
      (λ told. absurd (not_both_tokens text told.tokens broken.rule fault.at told.lexes broken.breaks))
      also)
      (λ told. ⊎_elim
      (λ broken. absurd (not_both_tokens text told.tokens broken.rule other.at told.lexes broken.breaks))
      (one_reading_fault fault other told)
      also)
      faulty

  answered : (tokens : List Token) → Lexes text tokens → (answer : Result VexFile VexFault) → reading text tokens ≡ answer
      → ((file : VexFile) × IsFileOf text file) ⊎ ((fault : VexFault) × IsVexFaultOf text fault)
  answered tokens lexes (Ok file) says = inl (file, record { tokens = tokens; lexes = lexes; says = says })
  answered tokens lexes (Err fault) says = inr (fault, inr (record { tokens = tokens; lexes = lexes; says = says }))

  pub file_or_fault : ((file : VexFile) × IsFileOf text file) ⊎ ((fault : VexFault) × IsVexFaultOf text fault)
  file_or_fault =
      ⊎_elim
      (λ lexed. answered lexed.0 lexed.1 (reading text lexed.0) refl)
      (λ broken. inr (record { kind = Lex broken.0; at = broken.1 }, inl (record { rule = broken.0; kind = refl; breaks = broken.2 })))
      (tokens_or_break text)

  -- A reading that answers the file or the fault of the text answers the file that it has, and the fault that it has.
  pub gives_file : (answer : Result VexFile VexFault) → IfOk answer (IsFileOf text) → IfErr answer (λ fault. (fault ≡ out_of_memory) ⊎ IsVexFaultOf text fault)
      → (file : VexFile) → IsFileOf text file → GivesFile answer file
  gives_file (Ok found) says faulty file wanted = one_file found file says wanted
  gives_file (Err fault) says faulty file wanted = ⊎_elim (λ memory. memory) (λ broken. absurd (not_both file fault wanted broken)) faulty

  pub gives_fault : (answer : Result VexFile VexFault) → IfOk answer (IsFileOf text) → IfErr answer (λ fault. (fault ≡ out_of_memory) ⊎ IsVexFaultOf text fault)
      → (fault : VexFault) → IsVexFaultOf text fault → GivesVexFault answer fault
  gives_fault (Ok found) says faulty fault wanted = not_both found fault says wanted
  gives_fault (Err found) says faulty fault wanted = ⊎_elim inl (λ broken. inr (one_fault found fault broken wanted)) faulty
