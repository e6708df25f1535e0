-- The faults of a line, from its bytes to the fields behind its word.
use Rattle.std.proofs.Common.{◌≡◌, ◌⊎◌, inl, inr, ℕ, Bool, true, false, not, ◌&&◌, List, [], ◌∷◌, Option, Some, None, Result, length, option_map, refl, ap, arith}
use Rattle.job_lines.specs.Words.{word_of, is_inline, needed, further, are_written}
use Rattle.job_lines.specs.Rows.{is_clean, fields_of, row_from, row_of}
use Rattle.job_lines.specs.declared.word.Word.{Word}
use Rattle.job_text.specs.declared.fault.JobKind.{JobKind}
use Rattle.job_text.specs.declared.fault.JobKind.TheVariants.{Line, Double, Missing, Unknown, Range, Memory}
use Rattle.job_text.specs.Said.{Said}
use Rattle.job_text.specs.Faults.{row_fault, word_fault, fields_fault, line_fault}
use Rattle.job_text.specs.Growing.{Takes, grown, grown_by, fault_in}

nil_from : {A : Type 0} (xs : List A) → length xs ≡ 0 → xs ≡ []
nil_from [] h = refl
nil_from (x ∷ xs) h = absurd (omega (arith, h))

module _ (inline : Bool) (said : Said) where
  module _ (word : Word) (fields : List (List ℕ)) where
    pub word_fault-early : (is_inline word && not inline) ≡ true → word_fault inline said word fields ≡ Some Unknown
    unfolding word_fault
    word_fault-early early = rw early refl

    module _ (here : (is_inline word && not inline) ≡ false) where
      pub word_fault-unwritten : are_written (needed word) (further word) fields ≡ false → word_fault inline said word fields ≡ Some Line
      unfolding word_fault
      word_fault-unwritten unwritten = rw (here, unwritten) refl

      pub taken-row : (result : Result (Unit {0}) JobKind) (new : Said) → are_written (needed word) (further word) fields ≡ true
          → Takes (row_fault said word fields) (grown said word fields) result new → Takes (word_fault inline said word fields) (grown said word fields) result new
      unfolding word_fault
      taken-row result new written taken = rw (here, written) taken

  module _ (all : List (List ℕ)) where
    pub taken-none : length all ≡ 0 → (fields_fault inline said all ≡ None) × (said ≡ grown_by said (row_from all))
    unfolding fields_fault
    taken-none none = rw (nil_from all none) (refl, refl)

    module _ (first : List ℕ) (fields : List (List ℕ)) (are : all ≡ first ∷ fields) where
      pub fields_fault-unknown : word_of first ≡ None → fields_fault inline said all ≡ Some Unknown
      unfolding fields_fault
      fields_fault-unknown unknown = rw (are, unknown) refl

      pub taken-word : (word : Word) (result : Result (Unit {0}) JobKind) (new : Said) → word_of first ≡ Some word
          → Takes (word_fault inline said word fields) (grown said word fields) result new → Takes (fields_fault inline said all) (grown_by said (row_from all)) result new
      unfolding fields_fault
      taken-word word result new is taken = rw (are, is) taken

  module _ (line : List ℕ) where
    pub line_fault-unclean : is_clean line ≡ false → line_fault inline said line ≡ Some Line
    unfolding line_fault
    line_fault-unclean unclean = rw unclean refl

    pub taken-fields : (result : Result (Unit {0}) JobKind) (new : Said) → is_clean line ≡ true
        → Takes (fields_fault inline said (fields_of line)) (grown_by said (row_from (fields_of line))) result new → Takes (line_fault inline said line) (grown_by said (row_of line)) result new
    unfolding line_fault
    taken-fields result new clean taken = rw clean taken

-- a fault with the number of its line
pub fault-numbered : (fault : Option JobKind) (number : ℕ) (kind : JobKind) → (kind ≡ Memory) ⊎ (fault ≡ Some kind)
    → (fault_in kind number ≡ record { kind = Memory; line = 0 }) ⊎ (option_map (λ k. record { kind = k; line = number }) fault ≡ Some (fault_in kind number))
fault-numbered fault number kind (inl memory) = inl (ap (λ k. fault_in k number) memory)
fault-numbered fault number Line (inr refused) = inr (ap (option_map (λ k. record { kind = k; line = number })) refused)
fault-numbered fault number Double (inr refused) = inr (ap (option_map (λ k. record { kind = k; line = number })) refused)
fault-numbered fault number Missing (inr refused) = inr (ap (option_map (λ k. record { kind = k; line = number })) refused)
fault-numbered fault number Unknown (inr refused) = inr (ap (option_map (λ k. record { kind = k; line = number })) refused)
fault-numbered fault number Range (inr refused) = inr (ap (option_map (λ k. record { kind = k; line = number })) refused)
fault-numbered fault number Memory (inr refused) = inl refl
