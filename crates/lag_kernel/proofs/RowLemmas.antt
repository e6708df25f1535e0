-- Rows of values: what is cut out of them, how large it is, and the cells that it gives.
use Rattle.std.specs.Prelude.{if◌then◌else◌}
use Rattle.std.proofs.Common.{◌≡◌, ℕ, suc, ◌+◌, ◌-◌, ◌/◌, min, ◌<◌, ◌≤◌, Bool, true, false, List, length, get_or, take, ℤ, pos, negsuc, ◌+ℤ◌, ◌-ℤ◌, None, refl, sym, subst, ap, ap₂, ◌∙◌, arith, inl, inr}
use Rattle.std.proofs.Math.Dec.{leb}
use Rattle.std.proofs.lemmas.Bool.{cases_lt, and_right, lt-leb}
use Rattle.std.proofs.lemmas.Int.{ints}
use Rattle.std.proofs.lemmas.List.{get_or-take, get_or_past, get_or_default, length-take-le}
use Rattle.block_lags.specs.Cells.{IsGrown as HasMore}
use Rattle.block_lags.specs.Scans.{AreRows}
use Rattle.bit_planes.specs.Planes.{PlanesFields, plane_value}
use Rattle.byte_streams.specs.Rows.{row_len, row_value as block_value}
use Rattle.byte_streams.specs.declared.row.Row.{Row as BlockRow}
use Rattle.packed_values.specs.From.{value_from}
use Rattle.packed_values.specs.Packed.{values_of}
use Rattle.packed_values.proofs.Small.{value_from-small}
use Rattle.corr_model.specs.declared.cell.Cell.{Cell}
use Rattle.corr_model.specs.Cell.{Value, no_cell, cell_plus, is_inside, cell_in}
use Rattle.corr_model.specs.Lags.{lag_of}
use Rattle.corr_model.proofs.CellLemmas.{same_cell, IsGrown, IsGrown-plus, cell_in-grown, cell_in-values}
use Rattle.lag_kernel.specs.Held.{AddsEach}
use Rattle.lag_kernel.specs.Planes.{plane_pair, plane_samples}
use Rattle.lag_kernel.specs.Rows.{row_value, row_inside, row_samples}
use Rattle.lag_kernel.specs.declared.row.Row.{Row}
use Rattle.lag_kernel.proofs.HeldLemmas.{inside-true}

pub row_cell-grown : (a b : Row) (samples : ℕ) (lag : ℤ) (from to : ℕ) → IsGrown (cell_in (row_samples a b) plane_pair samples lag from to) (to - from)
row_cell-grown a b samples lag from to =
    cell_in-grown (row_samples a b) plane_pair samples lag from to (λ n. value_from-small a.packed (n -ℤ pos a.from)) (λ n. value_from-small b.packed (n -ℤ pos b.from))

-- cells to which others are added
adds-each : (more : ℕ → Cell) (old new : List Cell) → length new ≡ length old
    → ((i : ℕ) → i < length old → HasMore (more i) (get_or old i no_cell) (get_or new i no_cell))
    → AddsEach old new more
adds-each more old new same each = λ k d h.
    let one = each k h in
    get_or_default new k d no_cell (omega (arith, same, h))
    ∙ same_cell _ _ _ _ _ _ one.re one.im one.count
    ∙ ap (λ (c : Cell). cell_plus c (more k)) (get_or_default old k no_cell d h)

pub adds-grown : (more : ℕ → Cell) (old new : List Cell) (n m : ℕ) → AddsEach old new more
    → ((k : ℕ) (d : Cell) → k < length old → IsGrown (get_or old k d) n)
    → ((k : ℕ) → IsGrown (more k) m)
    → (k : ℕ) (d : Cell) → k < length old → IsGrown (get_or new k d) (n + m)
adds-grown more old new n m adds grown each k d h =
    subst (λ (c : Cell). IsGrown c (n + m)) (sym (adds k d h)) (IsGrown-plus (get_or old k d) (more k) n m (grown k d h) (each k))

-- values of two rows hold the samples of the scan
pub rows-are : (a b : Row) (samples at : ℕ) (least start : ℤ) (s t : BlockRow)
    → at + row_len s ≤ samples
    → start ≡ pos at +ℤ least
    → ((k : ℕ) → k < row_len s → block_value s k ≡ row_inside a samples (pos at +ℤ pos k))
    → ((k : ℕ) → k < row_len t → block_value t k ≡ row_inside b samples (start +ℤ pos k))
    → AreRows (row_samples a b) plane_pair samples at least s t
rows-are a b samples at least start s t inside begin first second = record {
  first = λ k lt.
      let place : pos at +ℤ pos k ≡ pos (at + k) = omega (arith, ints) in
      first k lt
      ∙ ap (row_inside a samples) place
      ∙ ap (λ (b : Bool). if b then row_value a (pos (at + k)) else None) (inside-true (at + k) samples (omega (arith, inside, lt)));
  second = λ j lt.
      let place : start +ℤ pos j ≡ pos (at + j) +ℤ least = omega (arith, ints, begin) in
      second j lt ∙ ap (row_inside b samples) place;
}

-- what a block adds to each cell
pub rows-add : (a b : Row) (samples at stop n : ℕ) (least : ℤ) (old new : List Cell) → length new ≡ length old
    → least ≡ pos 0 -ℤ pos (length old / 2)
    → at + n ≡ stop
    → ((i : ℕ) → i < length old → HasMore (cell_in (row_samples a b) plane_pair samples (least +ℤ pos i) at (at + n)) (get_or old i no_cell) (get_or new i no_cell))
    → AddsEach old new (λ i. cell_in (row_samples a b) plane_pair samples (lag_of (length old) i) at stop)
rows-add a b samples at stop n least old new same is end each =
    adds-each (λ i. cell_in (row_samples a b) plane_pair samples (lag_of (length old) i) at stop) old new same (λ i lt.
    let lag : least +ℤ pos i ≡ lag_of (length old) i = omega (arith, ints, is) in
    let cell : cell_in (row_samples a b) plane_pair samples (least +ℤ pos i) at (at + n) ≡ cell_in (row_samples a b) plane_pair samples (lag_of (length old) i) at stop =
    ap₂ (λ (l : ℤ) (m : ℕ). cell_in (row_samples a b) plane_pair samples l at m) lag end in
    subst (λ (c : Cell). HasMore c (get_or old i no_cell) (get_or new i no_cell)) cell (each i lt))

none-by : (v : Value) (b : Bool) → v ≡ None → None ≡ (if b then v else None)
none-by v true e = sym e
none-by v false e = refl

-- a sample number past the scan's end
inside-false : (k n : ℕ) → n ≤ k → is_inside (pos k) n ≡ false
inside-false k n h = and_right (leb 0 k) (leb (suc k) n) (lt-leb (suc k) n (omega (arith, h)))

-- the values of a row as far as the scan goes
pub inside-value : (r : Row) (samples held : ℕ) (p : List Value) (n m : ℤ) → m ≡ n -ℤ pos r.from
    → held ≡ min (length (values_of r.packed)) (samples - r.from)
    → p ≡ take held (values_of r.packed)
    → value_from p m ≡ (if is_inside n samples then value_from (values_of r.packed) m else None)
inside-value r samples held p n (negsuc j) is least same = none-by None (is_inside n samples) refl
inside-value r samples held p n (pos k) is least same =
    let values = values_of r.packed in
    let number : n ≡ pos (r.from + k) = omega (arith, ints, is) in
    let taken : get_or p k None ≡ get_or (take held values) k None = ap (λ (l : List Value). get_or l k None) same in
    elim (cases_lt k held) [
      | inl lt ↦
          let here : is_inside n samples ≡ true =
          ap (λ (x : ℤ). is_inside x samples) number ∙ inside-true (r.from + k) samples (omega (arith, lt, least)) in
          taken ∙ get_or-take held values k None lt ∙ sym (ap (λ (b : Bool). if b then get_or values k None else None) here)
      | inr past ↦
          taken
          ∙ get_or_past (take held values) k None (omega (arith, past, least, length-take-le held values (omega (arith, least))))
          ∙ elim (cases_lt k (length values)) [
            | inl lt ↦
                let gone : is_inside n samples ≡ false =
                ap (λ (x : ℤ). is_inside x samples) number ∙ inside-false (r.from + k) samples (omega (arith, past, least, lt)) in
                sym (ap (λ (b : Bool). if b then get_or values k None else None) gone)
            | inr end ↦ none-by (get_or values k None) (is_inside n samples) (get_or_past values k None end)
          ]
    ]

-- what is cut out of a row's values inside the scan
pub cut-values : (r : Row) (samples count : ℕ) (values : List Value) (p : BlockRow) (place n : ℤ)
    → ((m : ℤ) → value_from values (m -ℤ pos r.from) ≡ row_inside r samples m)
    → ((k : ℕ) → k < count → block_value p k ≡ value_from values (place +ℤ pos k))
    → place ≡ n -ℤ pos r.from
    → (k : ℕ) → k < count → block_value p k ≡ row_inside r samples (n +ℤ pos k)
cut-values r samples count values p place n inside cut is k lt =
    let here : place +ℤ pos k ≡ (n +ℤ pos k) -ℤ pos r.from = omega (arith, ints, is) in
    cut k lt ∙ ap (value_from values) here ∙ inside (n +ℤ pos k)

-- rows of the values of planes give the cells of the planes
pub rows-planes : (r s : Row) (a b : PlanesFields) → ((n : ℤ) → row_value r n ≡ plane_value a n) → ((n : ℤ) → row_value s n ≡ plane_value b n)
    → (samples : ℕ) (lag : ℤ) (from to : ℕ)
    → cell_in (row_samples r s) plane_pair samples lag from to ≡ cell_in (plane_samples a b) plane_pair samples lag from to
rows-planes r s a b first second samples lag from to =
    cell_in-values (row_samples r s) (plane_samples a b) plane_pair plane_pair samples lag from to (λ n _ _. first (pos n)) (λ n _ _ _. second (pos n +ℤ lag))
