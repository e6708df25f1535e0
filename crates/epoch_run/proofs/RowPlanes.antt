-- Planes of rows of codes.
use Rattle.std.specs.Prelude.{IfSome}
use Rattle.std.proofs.Common.{◌≡◌, ◌∙◌, ℕ, zero, suc, ◌+◌, ◌*◌, ◌≤◌, ◌<◌, ℤ, pos, negsuc, ◌-ℤ◌, ⊎_elim, List, [], ◌∷◌, ◌++◌, length, map, get_or, None, Vec, Global, refl, sym, ap, subst, arith}
use Rattle.std.proofs.lemmas.Bool.{cases_lt}
use Rattle.std.proofs.lemmas.List.{get_or_default, get_or_past, length-append}
use Rattle.std.proofs.lemmas.Nat.{mul-le}
use Rattle.corr_model.specs.Cell.{Value}
use Rattle.value_codes.specs.Codes.{value_of}
use Rattle.packed_values.specs.From.{value_from}
use Rattle.bit_planes.specs.Planes.{PlanesFields}
use Rattle.station_stream.specs.Stream.{AreLevelled}
use Rattle.station_stream.proofs.LevelledLemmas.{AreLevelled-codes}
use Rattle.epoch_run.specs.Levelled.{AllLevelled}
use Rattle.epoch_run.specs.Planes.{chans_value, planed}
use Rattle.epoch_run.specs.Rows.{HoldRows, row_value, row_values}
use Rattle.epoch_run.proofs.PlaneValues.{there, mapped, chans_value-past, each-more}

-- ---- one row

-- a row that is there
pub row_value-there : (from : ℕ) (rows : List (Vec ℕ Global)) (i : ℕ) (row : Vec ℕ Global) (n : ℤ) → i < length rows → row ≡ get_or rows i row
    → value_from (map value_of row.items) (n -ℤ pos from) ≡ row_value from rows i n
row_value-there from rows i row n h is =
    let x = there rows i h in
    let same : get_or (row_values rows) i [] ≡ map value_of row.items =
    mapped (λ (r : Vec ℕ Global). map value_of r.items) rows i x.0 [] h x.1 ∙ ap (λ (r : Vec ℕ Global). map value_of r.items) (sym (is ∙ x.1 row)) in
    ap (λ (values : List Value). value_from values (n -ℤ pos from)) (sym same)

-- the same row in two lists
pub row_value-same : (from : ℕ) (xs ys : List (Vec ℕ Global)) (i : ℕ) (n : ℤ) → length xs ≡ length ys → i < length xs → ((d : Vec ℕ Global) → get_or xs i d ≡ get_or ys i d)
    → row_value from xs i n ≡ row_value from ys i n
row_value-same from xs ys i n long h same =
    let inside : i < length ys = omega (arith, h, long) in
    let y = there ys i inside in
    sym (row_value-there from xs i y.0 n h (sym (same y.0 ∙ y.1 y.0))) ∙ row_value-there from ys i y.0 n inside (sym (y.1 y.0))

-- the rows of so many stations end where those of all do, or before
pub rows_end : (station stations chans : ℕ) → station < stations → station * chans + chans ≤ stations * chans
rows_end station stations chans h =
    let most : (station + 1) * chans ≤ stations * chans = mul-le (station + 1) chans stations chans (omega arith) (omega arith) in
    omega (arith, most)

-- ---- the rows of all stations

pub HoldRows-none : (from : ℕ) (chans : ℕ) (rows : List (Vec ℕ Global)) → HoldRows from chans rows []
HoldRows-none from chans rows = record {
  here = λ station chan n h there. absurd (omega (arith, h));
  past = λ station chan n past. ap (λ (c : List PlanesFields). chans_value c chan n) (get_or_past [] station [] (omega arith)) ∙ chans_value-past [] chan n (omega arith);
}

-- one more station
pub HoldRows-more : (from : ℕ) (chans : ℕ) (rows : List (Vec ℕ Global)) (planes : List (List PlanesFields)) (own : List PlanesFields)
    → HoldRows from chans rows planes → length own ≡ chans
    → ((chan : ℕ) (n : ℤ) → chan < chans → chans_value own chan n ≡ row_value from rows (length planes * chans + chan) n)
    → HoldRows from chans rows (planes ++ own ∷ [])
HoldRows-more from chans rows planes own hold long new = record {
  here = λ station chan n h small.
      each-more (λ (j : ℕ) (c : List PlanesFields). chans_value c chan n ≡ row_value from rows (j * chans + chan) n) planes own (length planes) refl
      (λ j d below. ap (λ (c : List PlanesFields). chans_value c chan n) (get_or_default planes j d [] below) ∙ hold.here j chan n below small)
      (new chan n small) station [] (omega (arith, h, length-append planes (own ∷ [])));
  past = λ station chan n past.
      ⊎_elim
      (λ (inside : station < length planes + 1).
      each-more (λ (j : ℕ) (c : List PlanesFields). chans_value c chan n ≡ None) planes own (length planes) refl
      (λ j d below. ap (λ (c : List PlanesFields). chans_value c chan n) (get_or_default planes j d [] below) ∙ hold.past j chan n past)
      (chans_value-past own chan n (omega (arith, long, past))) station [] inside)
      (λ (out : length planes + 1 ≤ station).
      ap (λ (c : List PlanesFields). chans_value c chan n) (get_or_past (planes ++ own ∷ []) station [] (omega (arith, out, length-append planes (own ∷ []))))
      ∙ chans_value-past [] chan n (omega arith))
      (cases_lt station (length planes + 1));
}

-- ---- levels

value_from-levelled : (codes : List ℕ) (m : ℤ) → IfSome (value_from (map value_of codes) m) AreLevelled
value_from-levelled codes (pos k) = AreLevelled-codes codes k
value_from-levelled codes (negsuc k) = tt

rows-levelled : (rows : List (Vec ℕ Global)) (i : ℕ) (m : ℤ) → IfSome (value_from (get_or (row_values rows) i []) m) AreLevelled
rows-levelled [] i m = value_from-levelled [] m
rows-levelled (row ∷ rows) zero m = value_from-levelled row.items m
rows-levelled (row ∷ rows) (suc i) m = rows-levelled rows i m

-- the values of codes are levels turned by sectors
pub AllLevelled-rows : (from : ℕ) (chans : ℕ) (rows : List (Vec ℕ Global)) (planes : List (List PlanesFields)) → HoldRows from chans rows planes → AllLevelled (planed planes)
AllLevelled-rows from chans rows planes hold station chan n =
    ⊎_elim
    (λ (there : station < length planes). ⊎_elim
    (λ (small : chan < chans). subst (λ (v : Value). IfSome v AreLevelled) (sym (hold.here station chan n there small)) (rows-levelled rows (station * chans + chan) (n -ℤ pos from)))
    (λ (past : chans ≤ chan). subst (λ (v : Value). IfSome v AreLevelled) (sym (hold.past station chan n past)) tt)
    (cases_lt chan chans))
    (λ (out : length planes ≤ station).
    let none : planed planes station chan n ≡ None = ap (λ (c : List PlanesFields). chans_value c chan n) (get_or_past planes station [] out) ∙ chans_value-past [] chan n (omega arith) in
    subst (λ (v : Value). IfSome v AreLevelled) (sym none) tt)
    (cases_lt station (length planes))
