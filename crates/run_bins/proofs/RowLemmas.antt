-- Rows of cells that stand one after another, and their texts.
use Rattle.std.proofs.Common.{◌≡◌, ℕ, zero, suc, ◌+◌, ◌-◌, ◌*◌, ◌<◌, ◌≤◌, List, [], ◌∷◌, ◌++◌, length, take, drop, Option, Result, Ok, Err, refl, sym, ap, ◌∙◌, subst, arith, append_assoc, length-append}
use Rattle.std.specs.List.{flat_map, range_with_len, enumerate_from}
use Rattle.std.specs.Result.{IsErr}
use Rattle.std.proofs.Math.Seq.{drop-append_seam}
use Rattle.std.proofs.lemmas.List.{take_all, take-append-le}
use Rattle.corr_model.specs.declared.cell.Cell.{Cell}
use Rattle.dev_traits.specs.Told.{more}
use Rattle.dev_traits.proofs.Appended.{more-nil}
use Rattle.sink_text.specs.Appends.{Appends}
use Rattle.sink_text.proofs.AppendedText.{Appends-done, Appends-then, Appends-exit}
use Rattle.vis_writer.proofs.Rows.{flat_map-next, flat_map-rest, rest_of, part_of}
use Rattle.run_bins.specs.Texts.{place_at}
use Rattle.run_bins.specs.Rows.{row_of, rows_text, bins_text}

-- ---- the texts of rows that are those of a list's things

row-first : {B : Type 0} (w k : ℕ) (before row rest : List B) → length before ≡ k * w → length row ≡ w
    → take w (drop (k * w) (before ++ (row ++ rest))) ≡ row
row-first w k before row rest long wide =
    ap (λ n. take w (drop n (before ++ (row ++ rest)))) (sym long)
    ∙ ap (take w) (drop-append_seam before (row ++ rest))
    ∙ take-append-le w row rest (omega (arith, wide))
    ∙ take_all w row (omega (arith, wide))

rows-from : {A B : Type 0} (text : ℕ → List B → List ℕ) (cells : A → List B) (w k : ℕ) (before : List B) (xs : List A)
    → ((x : A) → length (cells x) ≡ w) → length before ≡ k * w
    → flat_map (λ i. text i (take w (drop (i * w) (before ++ flat_map cells xs)))) (range_with_len k (length xs))
    ≡ flat_map (λ (p : ℕ × A). text p.0 (cells p.1)) (enumerate_from k xs)
rows-from text cells w k before [] each long = refl
rows-from {A = A} {B = B} text cells w k before (x ∷ xs) each long =
    let wide : length (cells x) ≡ w = each x in
    let longer : length (before ++ cells x) ≡ (k + 1) * w = length-append before (cells x) ∙ grind (arith, long, wide) in
    let rest : List B → List ℕ = λ all. flat_map (λ i. text i (take w (drop (i * w) all))) (range_with_len (k + 1) (length xs)) in
    ap (λ (row : List B). text k row ++ rest (before ++ (cells x ++ flat_map cells xs))) (row-first w k before (cells x) (flat_map cells xs) long wide)
    ∙ ap (λ (all : List B). text k (cells x) ++ rest all) (sym (append_assoc before (cells x) (flat_map cells xs)))
    ∙ ap (λ (t : List ℕ). text k (cells x) ++ t) (rows-from text cells w (k + 1) (before ++ cells x) xs each longer)

pub rows-of : {A : Type 0} (text : ℕ → List Cell → List ℕ) (cells : A → List Cell) (w : ℕ) (xs : List A)
    → ((x : A) → length (cells x) ≡ w)
    → rows_text text w (flat_map cells xs) (length xs) ≡ flat_map (λ (p : ℕ × A). text p.0 (cells p.1)) (enumerate_from 0 xs)
rows-of text cells w xs each = rows-from text cells w 0 [] xs each (omega arith)

-- numbers are numbered by themselves
pub numbers-numbered : {X : Type 0} (f : ℕ × ℕ → List X) (k n : ℕ)
    → flat_map f (enumerate_from k (range_with_len k n)) ≡ flat_map (λ (i : ℕ). f (i, i)) (range_with_len k n)
numbers-numbered f k zero = refl
numbers-numbered {X = X} f k (suc n) = ap (λ (t : List X). f (k, k) ++ t) (numbers-numbered f (k + 1) n)

-- the same text of each thing
pub flat_map-same : {A X : Type 0} (f g : A → List X) (xs : List A) → ((x : A) → f x ≡ g x) → flat_map f xs ≡ flat_map g xs
flat_map-same f g [] each = refl
flat_map-same {A = A} {X = X} f g (x ∷ xs) each =
    ap (λ (t : List X). t ++ flat_map f xs) (each x) ∙ ap (λ (t : List X). g x ++ t) (flat_map-same f g xs each)

-- the records of the bins of a product at the baseline of a number
abbrev pub baseline-row : ℕ → ℕ → ℕ → ℕ → ℕ → ℕ → List Cell → List ℕ
baseline-row number m product bins lags b = bins_text (place_at number m product b) bins lags

-- ---- rows whose texts are appended one by one

module _ (text : ℕ → List Cell → List ℕ) (width n : ℕ) (cells : List Cell) where
  abbrev row_text : ℕ → List ℕ
  row_text k = text k (row_of width cells k)

  pub rows-none : (told : Option (List ℕ)) → told ≡ more told (rows_text text width cells 0)
  rows-none told = sym (more-nil told)

  pub rows-next : {T E : Type 0} {old mid new : Option (List ℕ)} {before then now : ℕ} {r : Result T E} (k : ℕ)
      → mid ≡ more old (rows_text text width cells k)
      → then ≡ before
      → Appends mid new (text k (take (k * width + width - k * width) (drop (k * width) cells))) then now r
      → Appends old new (rows_text text width cells (k + 1)) before now r
  rows-next {mid = mid} {new = new} {then = then} {now = now} {r = r} k told kept one =
      Appends-then (flat_map-next row_text k) (Appends-done {T = Unit {0}} tt told kept)
      (subst (λ (c : List Cell). Appends mid new (text k c) then now r) (part_of width (k * width) cells) one)

  pub rows-exit : {T U E F : Type 0} {old new : Option (List ℕ)} {before now : ℕ} {e : E} {r : Result T F} (k : ℕ)
      → k < n
      → IsErr r
      → Appends {T = U} {E = E} old new (rows_text text width cells (k + 1)) before now (Err e)
      → Appends old new (rows_text text width cells n) before now r
  rows-exit k h failed first =
      Appends-exit (rest_of row_text (k + 1) n) (flat_map-rest row_text (k + 1) n (omega (arith, h))) failed first

  pub rows-all : {T E : Type 0} {old new : Option (List ℕ)} {before now : ℕ} (x : T) (k : ℕ)
      → k ≤ n → n ≤ k
      → new ≡ more old (rows_text text width cells k)
      → now ≡ before
      → Appends {T = T} {E = E} old new (rows_text text width cells n) before now (Ok x)
  rows-all {old = old} x k low high told kept =
      let last : k ≡ n = omega (arith, low, high) in
      Appends-done x (told ∙ ap (λ j. more old (rows_text text width cells j)) last) kept
