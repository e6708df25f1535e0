-- The shape of a statement and the rows of the table.
use Rattle.std.proofs.Common.{◌≡◌, ◌≢◌, ◌⊎◌, inl, inr, ⊎_elim, ℕ, Bool, true, false, cond, not, ◌||◌, ◌&&◌, List, [], ◌∷◌, None, Some, bytes_eq, codes, refl, sym, ap, ◌∙◌, subst}
use Rattle.std.proofs.lemmas.Slice.Eq.{bytes_eq-Decides}
use Rattle.vex_lex.specs.declared.token.TokenKind.{TokenKind}
use Rattle.vex_lex.specs.declared.token.TokenKind.TheVariants.{Word, Quoted, Literal, Equals, Colon, Semicolon}
use Rattle.vex_reader.specs.declared.file.Statement.{Statement}
use Rattle.vex_reader.specs.declared.shape.ItemKind.TheVariants.{Def, Scan}
use Rattle.vex_reader.specs.declared.shape.Shape.{Shape}
use Rattle.vex_reader.specs.declared.shape.Shape.TheVariants.{Blank, Block, Begin, End, Entry, Other, Bad}
use Rattle.vex_reader.specs.Shapes.{Mark, is_block_name, is_keyword, are_values, values_of, unshaped, lone_shape, item_shape, is_assignment, is_ref, assignment_shape, ref_shape, word_shape, shape_of, is_sign}
use Rattle.vex_laws.specs.Rows.{IsAssignment, IsRef, Says, FitsNone, BeginsReserved, IsRow, HasShapeOfRow, FitsOneRow}

-- the tests of an assignment, and of a ref
free-from : (k r v : Bool) → (not (k || r) && v) ≡ true → (k ≡ false) × (r ≡ false) × (v ≡ true)
free-from false false true is = (refl, refl, refl)
free-from false false false is = absurd cc
free-from false true v is = absurd cc
free-from true r v is = absurd cc

free-to : (k r v : Bool) → k ≡ false → r ≡ false → v ≡ true → (not (k || r) && v) ≡ true
free-to k r v one two three = rw (one, two, three) refl

all-from : (k b v : Bool) → (k && b && v) ≡ true → (k ≡ true) × (b ≡ true) × (v ≡ true)
all-from true true true is = (refl, refl, refl)
all-from true true false is = absurd cc
all-from true false v is = absurd cc
all-from false b v is = absurd cc

all-to : (k b v : Bool) → k ≡ true → b ≡ true → v ≡ true → (k && b && v) ≡ true
all-to k b v one two three = rw (one, two, three) refl

same_text : (a b : List ℕ) → bytes_eq a b ≡ true → a ≡ b
same_text a b = (bytes_eq-Decides a b).0

other_text : (a b : List ℕ) → bytes_eq a b ≡ false → a ≢ b
other_text a b is same = let one = (bytes_eq-Decides a b).1 same in absurd cc

text_differs : (a b : List ℕ) → a ≢ b → bytes_eq a b ≡ false
text_differs a b differ = by (bytes_eq a b) refl
  where
    by : (t : Bool) → bytes_eq a b ≡ t → t ≡ false
    by true e = absurd (differ (same_text a b e))
    by false e = refl

head_same : (a b : Mark) (xs ys : List Mark) → a ∷ xs ≡ b ∷ ys → a ≡ b
head_same a b xs ys is = cc

word_same : (a b : List ℕ) (xs ys : List Mark) → (Word, a) ∷ xs ≡ (Word, b) ∷ ys → a ≡ b
word_same a b xs ys is = ap (λ (mark : Mark). mark.1) (head_same (Word, a) (Word, b) xs ys is)

both_ways : (b : Bool) → b ≡ true → b ≡ false → ⊥
both_ways true is other = absurd cc
both_ways false is other = absurd cc

-- what begins with no word begins with none that is reserved
no_word : (kind : TokenKind) (bytes : List ℕ) (rest : List Mark) → is_sign Word kind ≡ false → ¬ BeginsReserved ((kind, bytes) ∷ rest)
no_word kind bytes rest other r =
    let same : kind ≡ Word = ap (λ (mark : Mark). mark.0) (head_same (kind, bytes) (Word, r.word) rest r.rest r.row) in
    both_ways (is_sign Word kind) (ap (is_sign Word) same) other

module _ (at : ℕ) where
  -- an entry with these fields
  entry : (statement : Statement) (values : List Mark) → statement.at ≡ at → statement.values ≡ values_of values
      → Entry (record { at = at; key = statement.key; target = statement.target; values = values_of values }) ≡ Entry statement
  entry statement values place says = λ i. Entry (record { at = sym place i; key = statement.key; target = statement.target; values = sym says i })

  assigned : (marks : List Mark) (statement : Statement) → IsAssignment at marks statement → shape_of at marks ≡ Entry statement
  assigned marks statement h =
      let is = free-to (is_keyword statement.key) (bytes_eq statement.key (codes "ref")) (are_values h.values) h.free (text_differs statement.key (codes "ref") h.no_ref) h.plain in
      ap (shape_of at) h.row
      ∙ (λ i. cond (is i) (Entry (record { at = at; key = statement.key; target = None; values = values_of h.values })) (unshaped statement.key))
      ∙ (λ i. Entry (record { at = at; key = statement.key; target = sym h.to_none i; values = values_of h.values }))
      ∙ entry statement h.values h.place h.says

  referred : (marks : List Mark) (statement : Statement) → IsRef at marks statement → shape_of at marks ≡ Entry statement
  referred marks statement h =
      let is = all-to (bytes_eq (codes "ref") (codes "ref")) (is_block_name h.target) (are_values h.values) refl h.block h.plain in
      ap (shape_of at) h.row
      ∙ (λ i. cond (is i) (Entry (record { at = at; key = codes "ref"; target = Some h.target; values = values_of h.values })) (unshaped (codes "ref")))
      ∙ (λ i. Entry (record { at = at; key = sym h.key i; target = sym h.to_block i; values = values_of h.values }))
      ∙ entry statement h.values h.place h.says

  -- what a row says is the shape
  said : (marks : List Mark) (shape : Shape) → Says at marks shape → shape_of at marks ≡ shape
  said marks Blank (inl nothing) = ap (shape_of at) nothing
  said marks Blank (inr literal) = ap (shape_of at) literal.1
  said marks (Block name) h = ap (shape_of at) h.0 ∙ (λ i. cond (h.1 i) (Block name) (cond (bytes_eq name (codes "enddef")) (End Def) (cond (bytes_eq name (codes "endscan")) (End Scan) (unshaped name))))
  said marks (Begin Def name) h = ap (shape_of at) h
  said marks (Begin Scan name) h = ap (shape_of at) h
  said marks (End Def) h = ap (shape_of at) h
  said marks (End Scan) h = ap (shape_of at) h
  said marks (Entry statement) (inl assignment) = assigned marks statement assignment
  said marks (Entry statement) (inr ref) = referred marks statement ref
  said marks Other h = absurd h
  said marks Bad h = absurd h

  -- where the shape is one that no row says, no row fits
  unsaid : (marks : List Mark) (shape : Shape) → (Says at marks shape → ⊥) → shape_of at marks ≡ shape → FitsNone at marks
  unsaid marks shape not_said is other says = not_said (subst (Says at marks) (sym (said marks other says) ∙ is) says)

  passed_over : (marks : List Mark) → shape_of at marks ≡ Other → (¬ BeginsReserved marks) → IsRow at marks Other
  passed_over marks is free = (unsaid marks Other (λ h. h) is, free)

  unshaped_row : (word : List ℕ) (rest : List Mark) → word_shape at word rest ≡ unshaped word → IsRow at ((Word, word) ∷ rest) (unshaped word)
  unshaped_row word rest is = by (is_keyword word || is_block_name word) refl is
    where
      by : (b : Bool) → (is_keyword word || is_block_name word) ≡ b → word_shape at word rest ≡ cond b Bad Other → IsRow at ((Word, word) ∷ rest) (cond b Bad Other)
      by true e is = (unsaid ((Word, word) ∷ rest) Bad (λ h. h) is, record { word = word; rest = rest; row = refl; reserved = e })
      by false e is = passed_over ((Word, word) ∷ rest) is λ r.
          let reserved : List ℕ → Bool = λ w. is_keyword w || is_block_name w in
          both_ways (reserved r.word) r.reserved (ap reserved (sym (word_same word r.word rest r.rest r.row)) ∙ e)

  lone_row : (word : List ℕ) → IsRow at ((Word, word) ∷ []) (lone_shape word)
  lone_row word = by (is_block_name word) (bytes_eq word (codes "enddef")) (bytes_eq word (codes "endscan")) refl refl refl
    where
      by : (b d s : Bool) → is_block_name word ≡ b → bytes_eq word (codes "enddef") ≡ d → bytes_eq word (codes "endscan") ≡ s
          → IsRow at ((Word, word) ∷ []) (cond b (Block word) (cond d (End Def) (cond s (End Scan) (unshaped word))))
      by true d s e f g = (refl, e)
      by false true s e f g = ap (λ w. (Word, w) ∷ []) (same_text word (codes "enddef") f)
      by false false true e f g = ap (λ w. (Word, w) ∷ []) (same_text word (codes "endscan") g)
      by false false false e f g = unshaped_row word [] (λ i. cond (e i) (Block word) (cond (f i) (End Def) (cond (g i) (End Scan) (unshaped word))))

  item_row : (word name : List ℕ) → IsRow at ((Word, word) ∷ (Word, name) ∷ []) (item_shape word name)
  item_row word name = by (bytes_eq word (codes "def")) (bytes_eq word (codes "scan")) refl refl
    where
      by : (d s : Bool) → bytes_eq word (codes "def") ≡ d → bytes_eq word (codes "scan") ≡ s
          → IsRow at ((Word, word) ∷ (Word, name) ∷ []) (cond d (Begin Def name) (cond s (Begin Scan name) (unshaped word)))
      by true s e f = ap (λ w. (Word, w) ∷ (Word, name) ∷ []) (same_text word (codes "def") e)
      by false true e f = ap (λ w. (Word, w) ∷ (Word, name) ∷ []) (same_text word (codes "scan") f)
      by false false e f = unshaped_row word ((Word, name) ∷ []) (λ i. cond (e i) (Begin Def name) (cond (f i) (Begin Scan name) (unshaped word)))

  assignment_row : (word sign : List ℕ) (values : List Mark) → IsRow at ((Word, word) ∷ (Equals, sign) ∷ values) (assignment_shape at word values)
  assignment_row word sign values = by (is_assignment word values) refl
    where
      by : (b : Bool) → is_assignment word values ≡ b → IsRow at ((Word, word) ∷ (Equals, sign) ∷ values) (cond b (Entry (record { at = at; key = word; target = None; values = values_of values })) (unshaped word))
      by true e =
          let is = free-from (is_keyword word) (bytes_eq word (codes "ref")) (are_values values) e in
          inl (record {
            sign = sign;
            values = values;
            row = refl;
            free = is.0;
            no_ref = other_text word (codes "ref") is.1;
            plain = is.2;
            place = refl;
            to_none = refl;
            says = refl;
          })
      by false e = unshaped_row word ((Equals, sign) ∷ values) (λ i. cond (e i) (Entry (record { at = at; key = word; target = None; values = values_of values })) (unshaped word))

  ref_row : (word target sign : List ℕ) (values : List Mark) → IsRow at ((Word, word) ∷ (Word, target) ∷ (Equals, sign) ∷ values) (ref_shape at word target values)
  ref_row word target sign values = by (is_ref word target values) refl
    where
      by : (b : Bool) → is_ref word target values ≡ b
          → IsRow at ((Word, word) ∷ (Word, target) ∷ (Equals, sign) ∷ values) (cond b (Entry (record { at = at; key = word; target = Some target; values = values_of values })) (unshaped word))
      by true e =
          let is = all-from (bytes_eq word (codes "ref")) (is_block_name target) (are_values values) e in
          let same = same_text word (codes "ref") is.0 in
          inr (record {
            target = target;
            sign = sign;
            values = values;
            row = ap (λ w. (Word, w) ∷ (Word, target) ∷ (Equals, sign) ∷ values) same;
            block = is.1;
            plain = is.2;
            place = refl;
            key = same;
            to_block = refl;
            says = refl;
          })
      by false e = unshaped_row word ((Word, target) ∷ (Equals, sign) ∷ values)
          (λ i. cond (e i) (Entry (record { at = at; key = word; target = Some target; values = values_of values })) (unshaped word))

  word_row : (word : List ℕ) (rest : List Mark) → IsRow at ((Word, word) ∷ rest) (word_shape at word rest)
  word_row word [] = lone_row word
  word_row word ((Word, name) ∷ []) = item_row word name
  word_row word ((Word, target) ∷ (Equals, sign) ∷ values) = ref_row word target sign values
  word_row word ((Word, target) ∷ (Word, bytes) ∷ rest) = unshaped_row word ((Word, target) ∷ (Word, bytes) ∷ rest) refl
  word_row word ((Word, target) ∷ (Quoted, bytes) ∷ rest) = unshaped_row word ((Word, target) ∷ (Quoted, bytes) ∷ rest) refl
  word_row word ((Word, target) ∷ (Literal, bytes) ∷ rest) = unshaped_row word ((Word, target) ∷ (Literal, bytes) ∷ rest) refl
  word_row word ((Word, target) ∷ (Colon, bytes) ∷ rest) = unshaped_row word ((Word, target) ∷ (Colon, bytes) ∷ rest) refl
  word_row word ((Word, target) ∷ (Semicolon, bytes) ∷ rest) = unshaped_row word ((Word, target) ∷ (Semicolon, bytes) ∷ rest) refl
  word_row word ((Equals, sign) ∷ values) = assignment_row word sign values
  word_row word ((Quoted, bytes) ∷ rest) = unshaped_row word ((Quoted, bytes) ∷ rest) refl
  word_row word ((Literal, bytes) ∷ rest) = unshaped_row word ((Literal, bytes) ∷ rest) refl
  word_row word ((Colon, bytes) ∷ rest) = unshaped_row word ((Colon, bytes) ∷ rest) refl
  word_row word ((Semicolon, bytes) ∷ rest) = unshaped_row word ((Semicolon, bytes) ∷ rest) refl

  -- each shape's row fits
  row : (marks : List Mark) → IsRow at marks (shape_of at marks)
  row [] = inl refl
  row ((Word, word) ∷ rest) = word_row word rest
  row ((Literal, bytes) ∷ []) = inr (bytes, refl)
  row ((Literal, bytes) ∷ mark ∷ rest) = passed_over ((Literal, bytes) ∷ mark ∷ rest) refl (no_word Literal bytes (mark ∷ rest) refl)
  row ((Quoted, bytes) ∷ rest) = passed_over ((Quoted, bytes) ∷ rest) refl (no_word Quoted bytes rest refl)
  row ((Equals, bytes) ∷ rest) = passed_over ((Equals, bytes) ∷ rest) refl (no_word Equals bytes rest refl)
  row ((Colon, bytes) ∷ rest) = passed_over ((Colon, bytes) ∷ rest) refl (no_word Colon bytes rest refl)
  row ((Semicolon, bytes) ∷ rest) = passed_over ((Semicolon, bytes) ∷ rest) refl (no_word Semicolon bytes rest refl)

  -- and no other
  none_said : (marks : List Mark) → FitsNone at marks → (shape : Shape) → IsRow at marks shape → shape_of at marks ≡ shape → (shape ≡ Other) ⊎ (shape ≡ Bad)
  none_said marks none Other fits is = inl refl
  none_said marks none Bad fits is = inr refl
  none_said marks none Blank fits is = absurd (none Blank fits)
  none_said marks none (Block name) fits is = absurd (none (Block name) fits)
  none_said marks none (Begin kind name) fits is = absurd (none (Begin kind name) fits)
  none_said marks none (End kind) fits is = absurd (none (End kind) fits)
  none_said marks none (Entry statement) fits is = absurd (none (Entry statement) fits)

  which : (marks : List Mark) → FitsNone at marks → (shape_of at marks ≡ Other) ⊎ (shape_of at marks ≡ Bad)
  which marks none = none_said marks none (shape_of at marks) (row marks) refl

  of_row : (marks : List Mark) (shape : Shape) → IsRow at marks shape → shape_of at marks ≡ shape
  of_row marks Blank fits = said marks Blank fits
  of_row marks (Block name) fits = said marks (Block name) fits
  of_row marks (Begin kind name) fits = said marks (Begin kind name) fits
  of_row marks (End kind) fits = said marks (End kind) fits
  of_row marks (Entry statement) fits = said marks (Entry statement) fits
  of_row marks Other fits =
      ⊎_elim (λ other. other)
      (λ bad. let reserved : IsRow at marks Bad = subst (IsRow at marks) bad (row marks) in absurd (fits.1 reserved.1))
      (which marks fits.0)
  of_row marks Bad fits =
      ⊎_elim
      (λ other. let free : IsRow at marks Other = subst (IsRow at marks) other (row marks) in absurd (free.1 fits.1))
      (λ bad. bad)
      (which marks fits.0)

  pub shape_of_row : (marks : List Mark) (shape : Shape) → HasShapeOfRow at marks shape
  shape_of_row marks shape = (λ is. subst (IsRow at marks) is (row marks), of_row marks shape)

  pub one_row : (marks : List Mark) → FitsOneRow at marks
  one_row marks = record { shape = shape_of at marks; fits = row marks; only = of_row marks }
