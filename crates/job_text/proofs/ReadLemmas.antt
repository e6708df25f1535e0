-- The lines of a job read one behind the other.
use Rattle.std.proofs.Common.{◌≡◌, ℕ, ◌+◌, Bool, true, false, cond, not, ◌&&◌, List, [], ◌∷◌, ◌++◌, length, Option, Some, None, option_map, option_to_list, refl, sym, ap, ◌∙◌, arith, append_assoc}
use Rattle.std.specs.Option.{option_map_or}
use Rattle.std.proofs.lemmas.List.{append-nil}
use Rattle.job_lines.specs.Words.{word_of, is_inline, needed, further, are_written}
use Rattle.job_lines.specs.Rows.{Row, is_clean, fields_of, row_of, row_from}
use Rattle.job_lines.specs.declared.word.Word.{Word}
use Rattle.job_lines.proofs.RowLemmas.{filter_map-cons}
use Rattle.job_text.specs.declared.fault.JobKind.{JobKind}
use Rattle.job_text.specs.declared.fault.JobKind.TheVariants.{Line, Unknown}
use Rattle.job_text.specs.declared.fault.JobFault.{JobFault}
use Rattle.job_text.specs.Said.{Said, said_by}
use Rattle.job_text.specs.Faults.{row_fault, word_fault, fields_fault, line_fault}
use Rattle.job_text.specs.Growing.{grown_by}
use Rattle.job_text.specs.Answer.{faults_behind, first_fault, rows_in}
use Rattle.job_text.specs.Sound.{IsSaid}
use Rattle.job_text.proofs.SaidLemmas.{AreKnown, known-none, known-push, said-push}
use Rattle.job_text.proofs.SoundLemmas.{IsSaid-none}

-- the fault of a row, none where there is no row
abbrev fault_of : Said → Option Row → Option JobKind
fault_of said None = None
fault_of said (Some row) = row_fault said row.word row.fields

word-free : (inline : Bool) (said : Said) (word : Word) (fields : List (List ℕ)) → word_fault inline said word fields ≡ None → row_fault said word fields ≡ None
unfolding word_fault
word-free inline said word fields h = by (is_inline word && not inline) (not (are_written (needed word) (further word) fields)) h
  where
    by : (a b : Bool) → cond a (Some Unknown) (cond b (Some Line) (row_fault said word fields)) ≡ None → row_fault said word fields ≡ None
    by true b h = absurd cc
    by false true h = absurd cc
    by false false h = h

fields-free : (inline : Bool) (said : Said) (fields : List (List ℕ)) → fields_fault inline said fields ≡ None → fault_of said (row_from fields) ≡ None
unfolding fields_fault
fields-free inline said [] h = refl
fields-free inline said (first ∷ fields) h = by (word_of first) h
  where
    by : (o : Option Word) → option_map_or (λ word. word_fault inline said word fields) o (Some Unknown) ≡ None → fault_of said (option_map (λ word. record { word = word; fields = fields }) o) ≡ None
    by None h = absurd cc
    by (Some word) h = word-free inline said word fields h

-- a line without a fault has no row with one
line-free : (inline : Bool) (said : Said) (line : List ℕ) → line_fault inline said line ≡ None → fault_of said (row_of line) ≡ None
unfolding line_fault
line-free inline said line h = by (not (is_clean line)) h
  where
    by : (b : Bool) → cond b (Some Line) (fields_fault inline said (fields_of line)) ≡ None → fault_of said (row_of line) ≡ None
    by true h = absurd cc
    by false h = fields-free inline said (fields_of line) h

said-more : (rows : List Row) (o : Option Row) → AreKnown rows → fault_of (said_by rows) o ≡ None → said_by (rows ++ option_to_list o) ≡ grown_by (said_by rows) o
said-more rows None known h = ap said_by (append-nil rows)
said-more rows (Some row) known h = said-push rows row.word row.fields known h

known-more : (rows : List Row) (o : Option Row) → AreKnown rows → fault_of (said_by rows) o ≡ None → AreKnown (rows ++ option_to_list o)
known-more rows None known h = rw (append-nil rows) known
known-more rows (Some row) known h = known-push rows row.word row.fields known h

-- a fault of a kind in a line
abbrev at_number : ℕ → JobKind → JobFault
at_number n kind = record { kind = kind; line = n }

-- so many lines of a text were read, and these are left
pub record IsReading (inline : Bool) (all : List (List ℕ)) (said : Said) (number : ℕ) (left : List (List ℕ)) : Type 0 where
  pub rows : List Row
  pub known : AreKnown rows
  pub says : said ≡ said_by rows
  pub faults : first_fault 1 (faults_behind inline [] all) ≡ first_fault (number + 1) (faults_behind inline rows left)
  pub all_rows : rows_in all ≡ rows ++ rows_in left
  pub count : number + length left ≡ length all
  pub sound : IsSaid said

pub reading-starts : (inline : Bool) (all : List (List ℕ)) (said : Said) → said ≡ said_by [] → IsReading inline all said 0 all
reading-starts inline all said is = record { rows = []; known = known-none; says = is; faults = refl; all_rows = refl; count = omega arith; sound = rw is IsSaid-none }

module _ {inline : Bool} {all : List (List ℕ)} {said : Said} {number : ℕ} {left : List (List ℕ)} (h : IsReading inline all said number left) where
  pub reading-next : (line : List ℕ) (more : List (List ℕ)) (new : Said) → left ≡ line ∷ more
      → (line_fault inline said line ≡ None) × (new ≡ grown_by said (row_of line)) → (IsSaid said → IsSaid new) → IsReading inline all new (number + 1) more
  reading-next line more new is taken keeps =
      let free_said : line_fault inline (said_by h.rows) line ≡ None = ap (λ s. line_fault inline s line) (sym h.says) ∙ taken.0 in
      let free : fault_of (said_by h.rows) (row_of line) ≡ None = line-free inline (said_by h.rows) line free_said in
      record {
        rows = h.rows ++ option_to_list (row_of line);
        known = known-more h.rows (row_of line) h.known free;
        says = taken.1 ∙ ap (λ s. grown_by s (row_of line)) h.says ∙ sym (said-more h.rows (row_of line) h.known free);
        faults = h.faults ∙ ap (λ xs. first_fault (number + 1) (faults_behind inline h.rows xs)) is
            ∙ (λ i. first_fault (number + 1) (free_said i ∷ faults_behind inline (h.rows ++ option_to_list (row_of line)) more));
        all_rows = h.all_rows ∙ ap (λ xs. h.rows ++ rows_in xs) is ∙ ap (λ xs. h.rows ++ xs) (filter_map-cons row_of line more) ∙ (let e : (h.rows ++ option_to_list (row_of line)) ++ rows_in more ≡ h.rows ++ (option_to_list (row_of line) ++ rows_in more) = simp append_assoc in sym e);
        count = omega (arith, h.count, ap length is);
        sound = keeps h.sound;
      }
