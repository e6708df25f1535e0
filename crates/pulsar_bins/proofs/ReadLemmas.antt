-- The lines of a text read one behind the other, and the answer for the text.
use Rattle.std.proofs.Common.{◌≡◌, ◌⊎◌, inl, inr, ℕ, ◌+◌, List, [], ◌∷◌, ◌++◌, length, filter_map, Option, Some, None, Err, ok_or, option_to_list, refl, sym, ap, ◌∙◌, arith, append_assoc}
use Rattle.std.specs.Option.{option_or}
use Rattle.std.specs.Str.Lines.{lines}
use Rattle.std.proofs.lemmas.List.{append-nil}
use Rattle.std.proofs.lemmas.List.Elements.{filter_map-append, All-nil}
use Rattle.std.proofs.lemmas.List.Sums.{fold-append}
use Rattle.job_lines.proofs.RowLemmas.{filter_map-cons}
use Rattle.num_time.specs.Times.{IsSecond}
use Rattle.delay_poly.specs.declared.entry.PolyEntry.{PolyEntry}
use Rattle.pulsar_bins.specs.declared.word.Word.{Word}
use Rattle.pulsar_bins.specs.declared.word.Word.TheVariants.{Count, Phase}
use Rattle.pulsar_bins.specs.declared.said.Said.{Said}
use Rattle.pulsar_bins.specs.declared.fault.BinsKind.TheVariants.{Missing}
use Rattle.pulsar_bins.specs.declared.fault.BinsFault.{BinsFault}
use Rattle.pulsar_bins.specs.Values.{count_in}
use Rattle.pulsar_bins.specs.Words.{Row, row_of}
use Rattle.pulsar_bins.specs.Said.{count_by, phase_by, last, said_by}
use Rattle.pulsar_bins.specs.Faults.{line_fault}
use Rattle.pulsar_bins.specs.Growing.{grown, grown_by}
use Rattle.pulsar_bins.specs.Bins.{BinsFields, IsSaid}
use Rattle.pulsar_bins.specs.Answer.{faults_behind, first_fault, rows_in, bins_by, bins_in, out_of_memory}

abbrev count_of : Row → Option ℕ
count_of row = count_by row.word row.fields

abbrev phase_of : Row → Option PolyEntry
phase_of row = phase_by row.word row.fields

same_said : (c d : Option ℕ) (p q : List PolyEntry) → c ≡ d → p ≡ q → ◌≡◌ {A = Said} (record { count = c; phases = p }) (record { count = d; phases = q })
same_said c d p q a b = cc

-- what the rows say with one more
kept-more : {A B : Type 0} (f : A → Option B) (xs : List A) (x : A) → filter_map f (xs ++ x ∷ []) ≡ filter_map f xs ++ option_to_list (f x)
kept-more f xs x = filter_map-append f xs (x ∷ []) ∙ ap (λ ys. filter_map f xs ++ ys) (filter_map-cons f x [] ∙ append-nil (option_to_list (f x)))

last-more : {B : Type 0} (ys : List B) (o : Option B) → last (ys ++ option_to_list o) ≡ option_or o (last ys)
last-more ys None = ap last (append-nil ys)
last-more ys (Some y) = fold-append (λ _ x. Some x) None ys (y ∷ [])

said-row : (rows : List Row) (word : Word) (fields : List (List ℕ)) → said_by (rows ++ record { word = word; fields = fields } ∷ []) ≡ grown (said_by rows) word fields
unfolding said_by grown
said-row rows Count fields =
    let row : Row = record { word = Count; fields = fields } in
    same_said _ _ _ _ (ap last (kept-more count_of rows row) ∙ last-more (filter_map count_of rows) (count_in fields)) (kept-more phase_of rows row ∙ append-nil (filter_map phase_of rows))
said-row rows Phase fields =
    let row : Row = record { word = Phase; fields = fields } in
    same_said _ _ _ _ (ap last (kept-more count_of rows row ∙ append-nil (filter_map count_of rows))) (kept-more phase_of rows row)

said-more : (rows : List Row) (o : Option Row) → said_by (rows ++ option_to_list o) ≡ grown_by (said_by rows) o
said-more rows None = ap said_by (append-nil rows)
said-more rows (Some row) = said-row rows row.word row.fields

IsSaid-none : IsSaid (said_by [])
unfolding said_by
IsSaid-none = record { count = tt; seconds = All-nil (λ (e : PolyEntry). IsSecond e.second) }

-- so many lines of a text were read, and these are left
pub record IsReading (all : List (List ℕ)) (said : Said) (number : ℕ) (left : List (List ℕ)) : Type 0 where
  pub rows : List Row
  pub says : said ≡ said_by rows
  pub faults : first_fault 1 (faults_behind [] all) ≡ first_fault (number + 1) (faults_behind rows left)
  pub all_rows : rows_in all ≡ rows ++ rows_in left
  pub count : number + length left ≡ length all
  pub sound : IsSaid said

pub reading-starts : (all : List (List ℕ)) (said : Said) → said ≡ said_by [] → IsReading all said 0 all
reading-starts all said is = record { rows = []; says = is; faults = refl; all_rows = refl; count = omega arith; sound = rw is IsSaid-none }

module _ {all : List (List ℕ)} {said : Said} {number : ℕ} {left : List (List ℕ)} (h : IsReading all said number left) where
  pub reading-next : (line : List ℕ) (more : List (List ℕ)) (new : Said) → left ≡ line ∷ more
      → (line_fault said line ≡ None) × (new ≡ grown_by said (row_of line)) → (IsSaid said → IsSaid new) → IsReading all new (number + 1) more
  reading-next line more new is taken keeps =
      let free : line_fault (said_by h.rows) line ≡ None = ap (λ s. line_fault s line) (sym h.says) ∙ taken.0 in
      record {
        rows = h.rows ++ option_to_list (row_of line);
        says = taken.1 ∙ ap (λ s. grown_by s (row_of line)) h.says ∙ sym (said-more h.rows (row_of line));
        faults = h.faults ∙ ap (λ xs. first_fault (number + 1) (faults_behind h.rows xs)) is
            ∙ (λ i. first_fault (number + 1) (free i ∷ faults_behind (h.rows ++ option_to_list (row_of line)) more));
        all_rows = h.all_rows ∙ ap (λ xs. h.rows ++ rows_in xs) is ∙ ap (λ xs. h.rows ++ xs) (filter_map-cons row_of line more) ∙ (let e : (h.rows ++ option_to_list (row_of line)) ++ rows_in more ≡ h.rows ++ (option_to_list (row_of line) ++ rows_in more) = simp append_assoc in sym e);
        count = omega (arith, h.count, ap length is);
        sound = keeps h.sound;
      }

-- a text one of whose lines was refused
pub bins_in-refused : (text : List ℕ) (fault : BinsFault) → (fault ≡ out_of_memory) ⊎ (first_fault 1 (faults_behind [] (lines text)) ≡ Some fault)
    → (fault ≡ out_of_memory) ⊎ (bins_in text ≡ Err fault)
unfolding bins_in
bins_in-refused text fault (inl memory) = inl memory
bins_in-refused text fault (inr first) = inr (rw first refl)

-- a text whose lines were read
pub bins_in-read : (text : List ℕ) (said : Said) (bins : Option BinsFields) → (first_fault 1 (faults_behind [] (lines text)) ≡ None) × (said ≡ said_by (rows_in (lines text)))
    → bins ≡ bins_by said → bins_in text ≡ ok_or bins (record { kind = Missing; line = 0 })
unfolding bins_in
bins_in-read text said bins read is = rw read.0 (ap (λ (o : Option BinsFields). ok_or {E = BinsFault} o (record { kind = Missing; line = 0 })) (ap bins_by (sym read.1) ∙ sym is))
