-- Cells that are added row by row.
use Rattle.std.specs.Prelude.{flat_map}
use Rattle.std.proofs.Common.{◌≡◌, ◌∙◌, refl, sym, ap, ℕ, zero, suc, ◌+◌, ◌*◌, ◌<◌, ◌≤◌, List, [], ◌∷◌, ◌++◌, length, take, drop, get_or, arith}
use Rattle.std.proofs.Math.ListN.{set}
use Rattle.std.proofs.lemmas.List.{append-nil, take_more, length-take-le}
use Rattle.std.proofs.lemmas.List.Concat.{flat_map-append}
use Rattle.std.proofs.lemmas.List.FromFn.{length-map-range_with_len}
use Rattle.std.proofs.lemmas.Nat.{mul-le}
use borrow.Rule.Slice.PartMut.{put_mid, mid_of}
use Rattle.corr_model.specs.declared.cell.Cell.{Cell}
use Rattle.corr_model.specs.Cell.{Samples, cell_in}
use Rattle.corr_model.specs.Lags.{lag_of}
use Rattle.job_plan.specs.declared.plan.ProductPlan.{ProductPlan}
use Rattle.job_plan.specs.declared.plan.BaselinePlan.{BaselinePlan}
use Rattle.job_plan.specs.declared.plan.ScanPlan.{ScanPlan}
use Rattle.job_plan.specs.declared.plan.Plan.{Plan}
use Rattle.job_epochs.specs.Sums.{pair_of, lag_cells, baseline_cells}
use Rattle.job_epochs.specs.Added.{plus_wrapped, add_cells}
use Rattle.job_epochs.proofs.RowLemmas.{length-rows}

-- nothing more
add_cells-nil : (cells : List Cell) → add_cells cells [] ≡ cells
add_cells-nil [] = refl
add_cells-nil (c ∷ cells) = refl

pub none-added : (was : List Cell) → was ≡ add_cells was []
none-added was = sym (add_cells-nil was)

-- one cell more
pub cell-added : (was more : List Cell) (at : ℕ) (d : Cell) → at < length was → at < length more
    → set (add_cells was (take at more)) at (plus_wrapped (get_or (add_cells was (take at more)) at d) (get_or more at d)) ≡ add_cells was (take (at + 1) more)
cell-added [] more at d a b = absurd (omega (arith, a))
cell-added (c ∷ was) [] at d a b = absurd (omega (arith, b))
cell-added (c ∷ was) (m ∷ more) zero d a b = ap (λ (rest : List Cell). plus_wrapped c m ∷ rest) (none-added was)
cell-added (c ∷ was) (m ∷ more) (suc at) d a b =
    let after : suc (at + 1) ≡ suc at + 1 = omega arith in
    ap (λ (rest : List Cell). plus_wrapped c m ∷ rest) (cell-added was more at d (omega (arith, a)) (omega (arith, b)))
    ∙ ap (λ n. add_cells (c ∷ was) (take n (m ∷ more))) after

-- a part of the cells and those behind it
part-first : (was part : List Cell) → length part ≤ length was
    → add_cells (take (length part) was) part ++ drop (length part) was ≡ add_cells was part
part-first was [] fits = sym (add_cells-nil was)
part-first [] (p ∷ part) fits = absurd (omega (arith, fits))
part-first (c ∷ was) (p ∷ part) fits = ap (λ (rest : List Cell). plus_wrapped c p ∷ rest) (part-first was part (omega (arith, fits)))

-- a part more, behind those that were added
part-added : (was first part : List Cell) → length first + length part ≤ length was
    → put_mid (length first) (length part) (add_cells was first) (add_cells (mid_of (length first) (length part) (add_cells was first)) part)
    ≡ add_cells was (first ++ part)
part-added was [] part fits =
    ap (λ (cells : List Cell). add_cells (take (length part) cells) part ++ drop (length part) cells) (add_cells-nil was) ∙ part-first was part (omega (arith, fits))
part-added [] (f ∷ first) part fits = absurd (omega (arith, fits))
part-added (c ∷ was) (f ∷ first) part fits =
    ap (λ (rest : List Cell). plus_wrapped c f ∷ rest) (part-added was first part (omega (arith, fits)))

-- a row inside the rows
pub row-inside : (i n w : ℕ) → i < n → i * w + w ≤ n * w
row-inside i n w h =
    let rows : (i + 1) * w ≤ n * w = mul-le (i + 1) w n w (omega (arith, h)) (omega arith) in
    let wide : (i + 1) * w ≡ i * w + w = grind arith in
    omega (arith, rows, wide)

-- one row more
pub row-added : {A : Type 0} (row : A → List Cell) (things listed : List A) (w i at k : ℕ) (d : A) (was cells part : List Cell)
    → listed ≡ things → i < length listed → ((x : A) → length (row x) ≡ w) → length was ≡ length things * w
    → at ≡ i * w → k ≡ w
    → part ≡ add_cells (mid_of at k cells) (row (get_or listed i d))
    → cells ≡ add_cells was (flat_map row (take i things))
    → put_mid at k cells part ≡ add_cells was (flat_map row (take (i + 1) things))
row-added row things listed w i at k d was cells part same h each room here wide is so_far =
    let inside : i < length things = omega (arith, h, ap length same) in
    let first : List Cell = flat_map row (take i things) in
    let one : List Cell = row (get_or things i d) in
    let begin : at ≡ length first =
    here ∙ ap (λ n. n * w) (sym (length-take-le i things (omega (arith, inside)))) ∙ sym (length-rows row w (take i things) each) in
    let long : k ≡ length one = wide ∙ sym (each (get_or things i d)) in
    let rows : i * w + w ≤ length things * w = row-inside i (length things) w inside in
    let fits : length first + length one ≤ length was = omega (arith, rows, begin, here, long, wide, room) in
    let filled : part ≡ add_cells (mid_of at k cells) one = is ∙ ap (λ (l : List _). add_cells (mid_of at k cells) (row (get_or l i d))) same in
    ap (put_mid at k cells) filled
    ∙ ap (λ (l : List Cell). put_mid at k l (add_cells (mid_of at k l) one)) so_far
    ∙ ap (λ n. put_mid n k (add_cells was first) (add_cells (mid_of n k (add_cells was first)) one)) begin
    ∙ ap (λ n. put_mid (length first) n (add_cells was first) (add_cells (mid_of (length first) n (add_cells was first)) one)) long
    ∙ part-added was first one fits
    ∙ ap (add_cells was)
    (sym (ap (flat_map row) (take_more things i d inside)
    ∙ flat_map-append row (take i things) (get_or things i d ∷ [])
    ∙ ap (λ (l : List Cell). first ++ l) (append-nil one)))

-- how many cells a record has, and how many a product
pub length-record : (plan : Plan) (z : Samples) (scan : ScanPlan) (from to : ℕ) (p : ProductPlan) (b : BaselinePlan)
    → length (lag_cells plan z scan from to p b) ≡ plan.lags
length-record plan z scan from to p b =
    length-map-range_with_len (λ lag. cell_in z (pair_of p b) scan.samples (lag_of plan.lags lag) from to) 0 plan.lags

pub length-product : (plan : Plan) (z : Samples) (scan : ScanPlan) (from to w : ℕ) → w ≡ length scan.baselines * plan.lags → (p : ProductPlan)
    → length (baseline_cells plan z scan from to p) ≡ w
length-product plan z scan from to w wide p =
    length-rows (lag_cells plan z scan from to p) plan.lags scan.baselines (length-record plan z scan from to p) ∙ sym wide
