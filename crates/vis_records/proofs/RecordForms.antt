-- The records and the end of a record file, as they are written.
use Rattle.std.proofs.Common.{◌≡◌, ◌≤◌, ◌<◌, ◌+◌, ◌*◌, ◌^◌, ℕ, suc, List, [], ◌∷◌, ◌++◌, length, take, drop, subst, ap, sym, refl, ◌∙◌, arith, append_assoc, append-nil, length-append, lit<, lit≤, w64}
use Rattle.std.specs.Int.{cast_unsigned}
use Rattle.std.specs.List.{flat_map, range_with_len, All}
use Rattle.std.proofs.Math.Nat.{mul-suc}
use Rattle.std.proofs.lemmas.List.{take-append-drop, take_at, drop_at, nil_from_length, length-drop}
use Rattle.std.proofs.lemmas.List.FromFn.{length-range_with_len}
use Rattle.std.proofs.lemmas.List.Elements.{All-append, All-take, All-drop}
use Rattle.std.proofs.lemmas.Grind.{common_steps}
use Rattle.byteorder.specs.Endian.{little_bytes}
use Rattle.corr_model.specs.declared.cell.Cell.{Cell}
use Rattle.corr_model.specs.declared.records.RecordAt.{RecordAt}
use Rattle.corr_model.specs.Records.{IsCell, cell_text, record_text, records_text, end_text}
use Rattle.corr_model.proofs.RecordLemmas.{record_front, record_text-front, records_text-none, records_text-next}
use Rattle.vis_records.specs.declared.fault.VisKind.TheVariants.{Order}
use Rattle.vis_records.specs.Parts.{Took, in_turn, one_more, AreBytes}
use Rattle.vis_records.specs.Reading.{cell, place, record_due, nothing, due, end_due}
use Rattle.vis_records.proofs.PartLemmas.{took-later, in_turn-none, in_turn-cons}
use Rattle.vis_records.proofs.PartForms.{holding, IsForm, Read, read-parts, peel, AreBytes-behind, FieldSaid, field-said, field-reads, word-form, signed_word-form, Listed, more-reads, more-is, form-item}
use Rattle.vis_records.proofs.HeadForms.{took-what, took-rest, joined, assoc-5}

assoc-3 : (a b c r : List ℕ) → ((a ++ b) ++ c) ++ r ≡ a ++ (b ++ (c ++ r))
assoc-3 a b c r = simp append_assoc

pub cell-form : IsForm cell IsCell cell_text
cell-form = record {
  reads = λ c rest good.
      ap cell (assoc-3 (little_bytes 8 (cast_unsigned w64 c.re)) (little_bytes 8 (cast_unsigned w64 c.im)) (little_bytes 8 c.count) rest)
      ∙ took-later _ (signed_word-form.reads c.re _ good.re)
      (took-later _ (signed_word-form.reads c.im _ good.im) (took-later _ (word-form.reads c.count rest good.count) refl));
  good = λ t c rest bytes e.
      holding (peel _ t signed_word-form bytes e) (λ p.
      holding (peel _ p.rest signed_word-form p.bytes p.more) (λ q.
      holding (peel _ q.rest word-form q.bytes q.more) (λ r.
      subst IsCell (took-what r.more) (record { re = p.good; im = q.good; count = r.good }))));
  is = λ t c rest bytes e.
      holding (peel _ t signed_word-form bytes e) (λ p.
      holding (peel _ p.rest signed_word-form p.bytes p.more) (λ q.
      holding (peel _ q.rest word-form q.bytes q.more) (λ r.
      joined t (little_bytes 8 (cast_unsigned w64 p.what)) p.rest _ p.is (joined p.rest (little_bytes 8 (cast_unsigned w64 q.what)) q.rest _ q.is
      (joined q.rest (little_bytes 8 r.what) r.rest _ r.is (took-rest r.more)))
      ∙ sym (assoc-3 (little_bytes 8 (cast_unsigned w64 p.what)) (little_bytes 8 (cast_unsigned w64 q.what)) (little_bytes 8 r.what) rest)
      ∙ ap (λ c. cell_text c ++ rest) (took-what r.more))));
}

-- the numbers of a record have their bits
pub record IsPlace (at : RecordAt) : Type 0 where
  pub scan : at.scan < 2 ^ 32
  pub m : at.m < 2 ^ 64
  pub product : at.product < 2 ^ 32
  pub baseline : at.baseline < 2 ^ 32

le-same : (n : ℕ) → n ≤ n
le-same n = omega arith

due-reads : (size n : ℕ) (rest : List ℕ) → n < 256 ^ size → due size n (little_bytes size n ++ rest) ≡ Took n rest
due-reads size n rest small = field-reads size n n Order n rest (le-same n) (le-same n) small

-- a number that was due
record DueSaid (size n : ℕ) (t : List ℕ) (rest : List ℕ) : Type 0 where
  pub fits : n < 256 ^ size
  pub is : t ≡ little_bytes size n ++ rest
  pub bytes : AreBytes rest

due-said : (size n : ℕ) (t : List ℕ) (k : ℕ) (rest : List ℕ) → AreBytes t → due size n t ≡ Took k rest → DueSaid size n t rest
due-said size n t k rest bytes e =
    holding (field-said size n n Order t k rest bytes e) (λ (s : FieldSaid size n n t k rest).
    let same : k ≡ n = omega (arith, s.above, s.below) in
    let is : t ≡ little_bytes size n ++ rest = s.is ∙ ap (λ x. little_bytes size x ++ rest) same in
    record {
      fits = subst (λ x. x < 256 ^ size) same s.fits;
      is = is;
      bytes = AreBytes-behind (little_bytes size n) rest (subst AreBytes is bytes);
    })

place-reads : (at : RecordAt) (rest : List ℕ) → IsPlace at → place at (record_front at ++ rest) ≡ Took at.baseline rest
place-reads at rest good =
    ap (place at) (assoc-5 (1 ∷ []) (little_bytes 4 at.scan) (little_bytes 8 at.m) (little_bytes 4 at.product) (little_bytes 4 at.baseline) rest)
    ∙ took-later _ (due-reads 1 1 _ (lit< tt))
    (took-later _ (due-reads 4 at.scan _ good.scan)
    (took-later _ (due-reads 8 at.m _ good.m)
    (took-later _ (due-reads 4 at.product _ good.product) (due-reads 4 at.baseline rest good.baseline))))

place-is : (at : RecordAt) (t : List ℕ) (n : ℕ) (rest : List ℕ) → AreBytes t → place at t ≡ Took n rest → t ≡ record_front at ++ rest
place-is at t n rest bytes e =
    holding (read-parts (due 1 1 t) _ n rest e) (λ p₁.
    holding (due-said 1 1 t p₁.what p₁.rest bytes p₁.first) (λ s₁.
    holding (read-parts (due 4 at.scan p₁.rest) _ n rest p₁.second) (λ p₂.
    holding (due-said 4 at.scan p₁.rest p₂.what p₂.rest s₁.bytes p₂.first) (λ s₂.
    holding (read-parts (due 8 at.m p₂.rest) _ n rest p₂.second) (λ p₃.
    holding (due-said 8 at.m p₂.rest p₃.what p₃.rest s₂.bytes p₃.first) (λ s₃.
    holding (read-parts (due 4 at.product p₃.rest) _ n rest p₃.second) (λ p₄.
    holding (due-said 4 at.product p₃.rest p₄.what p₄.rest s₃.bytes p₄.first) (λ s₄.
    holding (due-said 4 at.baseline p₄.rest n rest s₄.bytes p₄.second) (λ s₅.
    joined t (1 ∷ []) p₁.rest _ s₁.is (joined p₁.rest (little_bytes 4 at.scan) p₂.rest _ s₂.is (joined p₂.rest (little_bytes 8 at.m) p₃.rest _ s₃.is
    (joined p₃.rest (little_bytes 4 at.product) p₄.rest _ s₄.is s₅.is)))
    ∙ sym (assoc-5 (1 ∷ []) (little_bytes 4 at.scan) (little_bytes 8 at.m) (little_bytes 4 at.product) (little_bytes 4 at.baseline) rest))))))))))

-- the cells of a record
cells-read : (lags : ℕ) (before cs : List Cell) (rest : List ℕ) → All IsCell before → All IsCell cs → length cs ≡ lags
    → in_turn (one_more (λ _. cell)) before (range_with_len 0 lags) (flat_map cell_text cs ++ rest) ≡ Took (before ++ cs) rest
cells-read lags before cs rest good fine long =
    more-reads (λ _. cell) (λ cs. All IsCell cs) cell_text (form-item cell-form) before cs (range_with_len 0 lags) rest
    (All-append IsCell before cs good fine) (long ∙ sym (length-range_with_len 0 lags))

record-reads : (lags : ℕ) (at : RecordAt) (before cs : List Cell) (rest : List ℕ) → IsPlace at → All IsCell before → All IsCell cs → length cs ≡ lags
    → record_due lags before at (record_text at cs ++ rest) ≡ Took (before ++ cs) rest
record-reads lags at before cs rest good all fine long =
    ap (record_due lags before at) (ap (λ t. t ++ rest) (record_text-front at cs) ∙ append_assoc (record_front at) (flat_map cell_text cs) rest)
    ∙ took-later _ (place-reads at (flat_map cell_text cs ++ rest) good) (cells-read lags before cs rest all fine long)

pub records-read : (lags : ℕ) (places : List RecordAt) (before zs : List Cell) (rest : List ℕ)
    → All IsPlace places
    → All IsCell before
    → All IsCell zs
    → length zs ≡ lags * length places
    → in_turn (record_due lags) before places (records_text lags places zs ++ rest) ≡ Took (before ++ zs) rest
records-read lags [] before zs rest good all fine long =
    let none : zs ≡ [] = nil_from_length zs (omega (arith, long)) in
    ap (λ t. in_turn (record_due lags) before [] (t ++ rest)) (records_text-none lags zs)
    ∙ in_turn-none (record_due lags) before rest
    ∙ ap (λ cs. Took cs rest) (sym (append-nil before) ∙ ap (λ cs. before ++ cs) (sym none))
records-read lags (at ∷ places) before zs rest good all fine long =
    let whole : length zs ≡ lags * length places + lags = long ∙ mul-suc lags (length places) in
    let first : length (take lags zs) ≡ lags = taken lags zs (omega (arith, whole)) in
    let others : length (drop lags zs) ≡ lags * length places = omega (arith, length-drop lags zs, whole) in
    let more : All IsCell (before ++ take lags zs) = All-append IsCell before (take lags zs) all (All-take IsCell lags zs fine) in
    ap (in_turn (record_due lags) before (at ∷ places))
    (ap (λ t. t ++ rest) (records_text-next lags at places zs) ∙ append_assoc (record_text at (take lags zs)) (records_text lags places (drop lags zs)) rest)
    ∙ in_turn-cons (record_due lags) at places before _
    ∙ took-later _ (record-reads lags at before (take lags zs) (records_text lags places (drop lags zs) ++ rest) (good 0 at (omega arith)) all (All-take IsCell lags zs fine) first)
    (records-read lags places (before ++ take lags zs) (drop lags zs) rest (λ k d within. good (suc k) d (omega arith)) more (All-drop IsCell lags zs fine) others
    ∙ ap (λ cs. Took cs rest) (append_assoc before (take lags zs) (drop lags zs) ∙ ap (λ cs. before ++ cs) (take-append-drop lags zs)))
  where
    taken : (n : ℕ) (xs : List Cell) → n ≤ length xs → length (take n xs) ≡ n
    taken n xs enough = grind (arith, common_steps)

-- the records that were read
pub record Recorded (lags : ℕ) (places : List RecordAt) (before : List Cell) (t : List ℕ) (all : List Cell) (rest : List ℕ) : Type 0 where
  pub cells : List Cell
  pub whole : all ≡ before ++ cells
  pub count : length cells ≡ lags * length places
  pub good : All IsCell all
  pub is : t ≡ records_text lags places cells ++ rest

next-recorded : (lags : ℕ) (at : RecordAt) (places : List RecordAt) (before : List Cell) (t t₁ t₂ : List ℕ) (after things : List Cell) (all : List Cell) (rest : List ℕ)
    → t ≡ record_front at ++ t₁
    → t₁ ≡ flat_map cell_text things ++ t₂
    → after ≡ before ++ things
    → length things ≡ lags
    → Recorded lags places after t₂ all rest
    → Recorded lags (at ∷ places) before t all rest
next-recorded lags at places before t t₁ t₂ after things all rest a b grown long r = record {
  cells = things ++ r.cells;
  whole = r.whole ∙ ap (λ cs. cs ++ r.cells) grown ∙ append_assoc before things r.cells;
  count = omega (arith, length-append things r.cells, long, r.count, mul-suc lags (length places));
  good = r.good;
  is =
      joined t (record_front at) t₁ _ a (joined t₁ (flat_map cell_text things) t₂ _ b r.is)
      ∙ sym (append_assoc (record_front at) (flat_map cell_text things) (records_text lags places r.cells ++ rest))
      ∙ ap (λ t. t ++ (records_text lags places r.cells ++ rest)) (sym (record_text-front at things))
      ∙ sym (append_assoc (record_text at things) (records_text lags places r.cells) rest)
      ∙ ap (λ t. t ++ rest) (sym text);
}
  where
    text : records_text lags (at ∷ places) (things ++ r.cells) ≡ record_text at things ++ records_text lags places r.cells
    text =
        records_text-next lags at places (things ++ r.cells)
        ∙ ap (λ cs. record_text at cs ++ records_text lags places (drop lags (things ++ r.cells))) (take_at things r.cells lags long)
        ∙ ap (λ cs. record_text at things ++ records_text lags places cs) (drop_at things r.cells lags long)

pub records-is : (lags : ℕ) (places : List RecordAt) (before : List Cell) (t : List ℕ) (all : List Cell) (rest : List ℕ)
    → AreBytes t
    → All IsCell before
    → in_turn (record_due lags) before places t ≡ Took all rest
    → Recorded lags places before t all rest
records-is lags [] before t all rest bytes good e =
    let same : Took before t ≡ Took all rest = sym (in_turn-none (record_due lags) before t) ∙ e in
    record {
      cells = [];
      whole = sym (took-what same) ∙ sym (append-nil before);
      count = omega arith;
      good = subst (All IsCell) (took-what same) good;
      is = took-rest same ∙ ap (λ t. t ++ rest) (sym (records_text-none lags []));
    }
records-is lags (at ∷ places) before t all rest bytes good e =
    holding (read-parts (record_due lags before at t) _ all rest (sym (in_turn-cons (record_due lags) at places before t) ∙ e)) (λ (r : Read (record_due lags before at t) (λ s' left. in_turn (record_due lags) s' places left) all rest).
    holding (read-parts (place at t) _ r.what r.rest r.first) (λ (s : Read (place at t) (λ _ left. in_turn (one_more (λ _. cell)) before (range_with_len 0 lags) left) r.what r.rest).
    let front : t ≡ record_front at ++ s.rest = place-is at t s.what s.rest bytes s.first in
    let left : AreBytes s.rest = AreBytes-behind (record_front at) s.rest (subst AreBytes front bytes) in
    holding (more-is (λ _. cell) (λ cs. All IsCell cs) cell_text (form-item cell-form) before (range_with_len 0 lags) s.rest r.what r.rest good left s.second)
    (λ (l : Listed (λ cs. All IsCell cs) cell_text before (range_with_len 0 lags) s.rest r.what r.rest).
    let behind : AreBytes r.rest = AreBytes-behind (flat_map cell_text l.things) r.rest (subst AreBytes l.is left) in
    next-recorded lags at places before t s.rest r.rest r.what l.things all rest front l.is l.whole (l.count ∙ length-range_with_len 0 lags)
    (records-is lags places r.what r.rest all rest behind l.good r.second))))

-- each record has a byte or more
pub records_text-long : (lags : ℕ) (places : List RecordAt) (zs : List Cell) → length places ≤ length (records_text lags places zs)
records_text-long lags [] zs = omega arith
records_text-long lags (at ∷ places) zs =
    let rest = records_text-long lags places (drop lags zs) in
    let text : length (records_text lags (at ∷ places) zs) ≡ length (record_text at (take lags zs)) + length (records_text lags places (drop lags zs)) =
    ap length (records_text-next lags at places zs) ∙ length-append (record_text at (take lags zs)) (records_text lags places (drop lags zs)) in
    let front : length (record_text at (take lags zs)) ≡ length (record_front at) + length (flat_map cell_text (take lags zs)) =
    ap length (record_text-front at (take lags zs)) ∙ length-append (record_front at) (flat_map cell_text (take lags zs)) in
    let some : 1 ≤ length (record_front at) = lit≤ tt in
    omega (arith, rest, text, front, some)

-- the end
pub end-reads : (count : ℕ) → count < 2 ^ 64 → end_due count (end_text count ++ []) ≡ Took 0 []
end-reads count small =
    ap (end_due count) (append_assoc (255 ∷ []) (little_bytes 8 count) [])
    ∙ took-later _ (due-reads 1 255 (little_bytes 8 count ++ []) (lit< tt)) (took-later _ (due-reads 8 count [] small) refl)

nothing-is : (t : List ℕ) (n : ℕ) (rest : List ℕ) → nothing t ≡ Took n rest → (t ≡ []) × (rest ≡ [])
nothing-is [] n rest e = (refl, sym (took-rest e))
nothing-is (b ∷ t) n rest e = let no : ⊥ = cc in absurd no

pub record EndSaid (count : ℕ) (t rest : List ℕ) : Type 0 where
  pub is : t ≡ end_text count ++ []
  pub none : rest ≡ []

pub end-is : (count : ℕ) (t : List ℕ) (n : ℕ) (rest : List ℕ) → AreBytes t → end_due count t ≡ Took n rest → EndSaid count t rest
end-is count t n rest bytes e =
    holding (read-parts (due 1 255 t) _ n rest e) (λ p.
    holding (due-said 1 255 t p.what p.rest bytes p.first) (λ s.
    holding (read-parts (due 8 count p.rest) _ n rest p.second) (λ q.
    holding (due-said 8 count p.rest q.what q.rest s.bytes q.first) (λ u.
    let both = nothing-is q.rest n rest q.second in
    record {
      is =
          joined t (255 ∷ []) p.rest _ s.is (joined p.rest (little_bytes 8 count) q.rest [] u.is both.0)
          ∙ sym (append_assoc (255 ∷ []) (little_bytes 8 count) []);
      none = both.1;
    }))))
