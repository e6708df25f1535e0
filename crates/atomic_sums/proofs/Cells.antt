-- Cells by their places.
use Rattle.std.proofs.Common.{◌≡◌, ◌<◌, ℕ, ◌+◌, ◌^◌, ◌*◌, ◌/◌, List, length, vec_len, get_or, map, pos, ◌-ℤ◌, ℤ, sym, ap, ◌∙◌, subst, arith, rules, FitsSigned, to_z, of_z}
use Rattle.std.specs.List.{range_with_len}
use Rattle.std.proofs.lemmas.Nat.{div-add-mod'}
use Rattle.std.proofs.lemmas.List.FromFn.{length-map-range_with_len, get_or-map-range_with_len}
use Rattle.std.specs.Int.{w64}
use Rattle.std.proofs.lemmas.Int.{ints, to_z-of_z}
use Rattle.corr_model.specs.declared.cell.Cell.{Cell}
use Rattle.atomic_sums.specs.Sums.{EpochCells, cell_at}
use Rattle.atomic_sums.specs.Fields.{cells_in}
use Rattle.atomic_sums.specs.declared.sums.EpochSums.TheInside.{Inside as SumsFields}

-- the totals of a cell are there
pub totals_there : (bias : ℕ) (totals : List ℕ) (i : ℕ) → i < length (map (cell_at bias totals) (range_with_len 0 (length totals / 3))) → 3 * i + 2 < length totals
totals_there bias totals i lt = omega (arith, lt, length-map-range_with_len (cell_at bias totals) 0 (length totals / 3), div-add-mod' (length totals) 3)

-- the same by the fields of an epoch's sums, of what callers see
pub in_items : (s : SumsFields) (e : EpochCells) (i : ℕ) → cells_in s ≡ e → i < length e.cells → 3 * i + 2 < length s.totals.items
in_items s e i is lt = totals_there s.bias s.totals.items i (subst (λ (v : EpochCells). i < length v.cells) (sym is) lt)

pub in_totals : (s : SumsFields) (e : EpochCells) (i : ℕ) → cells_in s ≡ e → i < length e.cells → 3 * i + 2 < vec_len s.totals
in_totals s e i is lt = let long : vec_len s.totals ≡ length s.totals.items = search rules in omega (arith, in_items s e i is lt, long)

pub cell_is : (bias : ℕ) (totals : List ℕ) (i : ℕ) (d : Cell) (re im : ℤ) (count : ℕ) → i < length (map (cell_at bias totals) (range_with_len 0 (length totals / 3))) → re ≡ pos (get_or totals (3 * i) 0) -ℤ pos bias → im ≡ pos (get_or totals (3 * i + 1) 0) -ℤ pos bias → count ≡ get_or totals (3 * i + 2) 0
    → get_or (map (cell_at bias totals) (range_with_len 0 (length totals / 3))) i d ≡ record { re = re; im = im; count = count }
cell_is bias totals i d re im count lt er ei ec =
    let made : ℤ → ℤ → ℕ → Cell = λ x y z. record { re = x; im = y; count = z } in
    get_or-map-range_with_len (cell_at bias totals) 0 (length totals / 3) i i d (omega (arith, lt, length-map-range_with_len (cell_at bias totals) 0 (length totals / 3))) (omega arith)
    ∙ ap (λ x. made x (pos (get_or totals (3 * i + 1) 0) -ℤ pos bias) (get_or totals (3 * i + 2) 0)) (sym er)
    ∙ ap (λ y. made re y (get_or totals (3 * i + 2) 0)) (sym ei)
    ∙ ap (λ z. made re im z) (sym ec)

-- a difference of two totals fits 64 bits
fits_less : (a b : ℕ) → a < 2 ^ 62 → b < 2 ^ 62 → FitsSigned w64 (pos a -ℤ pos b)
fits_less a b la lb = search (rules, ints)

pub less_is : (z : ℤ) (a b : ℕ) → a < 2 ^ 62 → b < 2 ^ 62 → z ≡ pos a -ℤ pos b → to_z w64 (of_z w64 z) ≡ pos a -ℤ pos b
less_is z a b la lb e = let fit : FitsSigned w64 z = subst (FitsSigned w64) (sym e) (fits_less a b la lb) in simp to_z-of_z e
