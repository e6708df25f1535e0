-- The cells of a bin: they add up over the parts of a range, and each sample adds a small one.
use Rattle.std.specs.Prelude.{if◌then◌else◌, flat_map}
use Rattle.std.specs.List.{range_with_len}
use Rattle.std.proofs.Common.{◌≡◌, ◌≢◌, ◌==◌, ℕ, zero, suc, ◌+◌, ◌-◌, ◌*◌, ◌/◌, ◌%◌, ◌≤◌, ◌<◌, Bool, true, false, ℤ, pos, ◌+ℤ◌, List, [], ◌∷◌, ◌++◌, ◌^◌, length, map, get_or, inl, inr, refl, sym, ap, ap₂, subst, ◌∙◌, arith, All}
use Rattle.std.proofs.lemmas.Bool.{cases_eq, cases_lt}
use Rattle.std.proofs.lemmas.Bool.Decides.{nat_tests}
use Rattle.std.proofs.lemmas.List.{append-nil, same_lists}
use Rattle.std.proofs.lemmas.List.Elements.{All-head, All-tail}
use Rattle.std.proofs.lemmas.List.FromFn.{length-range_with_len, get_or-range_with_len, length-map-range_with_len, get_or-map-range_with_len}
use Rattle.corr_model.specs.declared.cell.Cell.{Cell}
use Rattle.corr_model.specs.declared.cell.Pair.{Pair}
use Rattle.corr_model.specs.Cell.{Samples, no_cell, cell_plus, is_inside, product_of, product_at, sum_from, cell_in, IsProduct}
use Rattle.corr_model.specs.Lags.{lag_of}
use Rattle.corr_model.proofs.CellLemmas.{IsGrown, cell_plus-none, cell_in-sum, no_cell-small, sum_from-same, sum_from-split, sum_from-grown}
use Rattle.piece_plan.specs.declared.epoch.EpochPlan.{EpochPlan}
use Rattle.piece_plan.proofs.Quotients.{quotient_is}
use Rattle.piece_plan.proofs.PieceLemmas.{quotient-lt}
use Rattle.pulsar_bins.specs.Cells.{of_bin, bin_cell_in}
use Rattle.epoch_run.specs.Binned.{lag_cells, bin_cells, bin_cells_in_epoch}
use Rattle.epoch_run.specs.Levelled.{AllLevelled}
use Rattle.epoch_run.specs.Sums.{pair_cells, cells_in_epoch}
use Rattle.epoch_run.specs.Planes.{IsNumbered}
use Rattle.epoch_run.proofs.Rows.{get_or-rows, length-rows}
use Rattle.epoch_run.proofs.Within.{IsProduct-product_at}

-- the cells of ranges that add up, where each sample adds a small one
pub record AddsUp (over : ℕ → ℕ → Cell) : Type 0 where
  pub split : (from middle to : ℕ) → from ≤ middle → middle ≤ to → over from to ≡ cell_plus (over from middle) (over middle to)
  pub none : (from : ℕ) → over from from ≡ no_cell
  pub within : (from to : ℕ) → IsGrown (over from to) (to - from)

-- a sample adds to its own bin, and nothing to another
of_bin-same : (j b : ℕ) (c : Cell) → j ≡ b → (if j == b then c else no_cell) ≡ c
of_bin-same j b c is = let same : (j == b) ≡ true = grind (arith, nat_tests, is) in ap (λ (t : Bool). if t then c else no_cell) same

of_bin-other : (j b : ℕ) (c : Cell) → j ≢ b → (if j == b then c else no_cell) ≡ no_cell
of_bin-other j b c differ = let other : (j == b) ≡ false = grind (arith, nat_tests, differ) in ap (λ (t : Bool). if t then c else no_cell) other

sum_none : (from count : ℕ) → sum_from (λ n. no_cell) from count ≡ no_cell
sum_none from zero = refl
sum_none from (suc count) = cell_plus-none (sum_from (λ n. no_cell) from count) ∙ sum_none from count

module _ (bins : ℕ → ℕ) (b : ℕ) (z : Samples) (pair : Pair) (samples : ℕ) (lag : ℤ) where
  abbrev adds : ℕ → Cell
  adds = of_bin bins b (product_at z pair samples lag)

  abbrev cell : ℕ → ℕ → Cell
  cell from to = bin_cell_in bins b z pair samples lag from to

  pub bin_cell_in-split : (from middle to : ℕ) → from ≤ middle → middle ≤ to → cell from to ≡ cell_plus (cell from middle) (cell middle to)
  unfolding bin_cell_in
  bin_cell_in-split from middle to h k =
      let parts : to - from ≡ (middle - from) + (to - middle) = omega (arith, h, k) in
      let place : from + (middle - from) ≡ middle = omega (arith, h) in
      ap (sum_from adds from) parts
      ∙ sum_from-split adds from (middle - from) (to - middle)
      ∙ ap (λ (n : ℕ). cell_plus (sum_from adds from (middle - from)) (sum_from adds n (to - middle))) place

  pub bin_cell_in-none : (from : ℕ) → cell from from ≡ no_cell
  unfolding bin_cell_in
  bin_cell_in-none from =
      let parts : from - from ≡ 0 = omega arith in
      ap (sum_from adds from) parts

  pub IsGrown-bin_cell_in : AllLevelled z → (from to : ℕ) → IsGrown (cell from to) (to - from)
  unfolding bin_cell_in
  IsGrown-bin_cell_in all from to = sum_from-grown adds from (to - from) (λ n. by n (bins n == b))
    where
      by : (n : ℕ) (t : Bool) → IsProduct (if t then product_at z pair samples lag n else no_cell)
      by n true = IsProduct-product_at z pair samples lag n all
      by n false = no_cell-small

  pub AddsUp-bin_cell_in : AllLevelled z → AddsUp (bin_cell_in bins b z pair samples lag)
  AddsUp-bin_cell_in all = record { split = bin_cell_in-split; none = bin_cell_in-none; within = IsGrown-bin_cell_in all }

  -- where all samples are of the bin, its cell is that of all
  pub bin_cell_in-same : (from to : ℕ) → ((n : ℕ) → from ≤ n → n < to → bins n ≡ b) → cell from to ≡ cell_in z pair samples lag from to
  unfolding bin_cell_in
  bin_cell_in-same from to each =
      sum_from-same adds (product_at z pair samples lag) from (to - from)
      (λ k h. of_bin-same (bins (from + k)) b (product_at z pair samples lag (from + k)) (each (from + k) (omega arith) (omega (arith, h))))
      ∙ sym (cell_in-sum z pair samples lag from to)

  -- and where none is, there is none
  pub bin_cell_in-other : (from to : ℕ) → ((n : ℕ) → from ≤ n → n < to → bins n ≢ b) → cell from to ≡ no_cell
  unfolding bin_cell_in
  bin_cell_in-other from to each =
      sum_from-same adds (λ n. no_cell) from (to - from)
      (λ k h. of_bin-other (bins (from + k)) b (product_at z pair samples lag (from + k)) (each (from + k) (omega arith) (omega (arith, h))))
      ∙ sum_none from (to - from)

-- cells over equal values are equal
pub bin_cell_in-values : (bins : ℕ → ℕ) (b : ℕ) (y z : Samples) (p q : Pair) (samples : ℕ) (lag : ℤ) (from to : ℕ)
    → ((n : ℤ) → y p.a p.x n ≡ z q.a q.x n)
    → ((n : ℤ) → y p.b p.y n ≡ z q.b q.y n)
    → bin_cell_in bins b y p samples lag from to ≡ bin_cell_in bins b z q samples lag from to
unfolding bin_cell_in
bin_cell_in-values bins b y z p q samples lag from to first second = λ i.
    sum_from
    (of_bin bins b (λ n. if is_inside (pos n +ℤ lag) samples then product_of (first (pos n) i) (second (pos n +ℤ lag) i) else no_cell))
    from (to - from)

pub bin_cells-values : (bins : ℕ → ℕ) (count : ℕ) (y z : Samples) (p q : Pair) (samples lags from to : ℕ)
    → ((n : ℤ) → y p.a p.x n ≡ z q.a q.x n)
    → ((n : ℤ) → y p.b p.y n ≡ z q.b q.y n)
    → bin_cells bins count y samples lags from to p ≡ bin_cells bins count z samples lags from to q
bin_cells-values bins count y z p q samples lags from to first second = λ t.
    flat_map
    (λ b. map (λ i. bin_cell_in-values bins b y z p q samples (lag_of lags i) from to first second t) (range_with_len 0 lags))
    (range_with_len 0 count)

-- where all samples are of bin 0 and there is no other, the cells are those of the pair
pub bin_cells-one : (z : Samples) (samples lags from to : ℕ) (pair : Pair)
    → bin_cells (λ n. 0) 1 z samples lags from to pair ≡ pair_cells z samples lags from to pair
bin_cells-one z samples lags from to pair =
    append-nil (lag_cells (λ n. 0) z samples lags from to pair 0)
    ∙ (λ t. map (λ i. bin_cell_in-same (λ n. 0) 0 z pair samples (lag_of lags i) from to (λ n _ _. refl) t) (range_with_len 0 lags))

module _ (bins : ℕ → ℕ) (count : ℕ) (z : Samples) (samples lags from to : ℕ) (pair : Pair) where
  abbrev row : ℕ → List Cell
  row = lag_cells bins z samples lags from to pair

  abbrev cells : List Cell
  cells = bin_cells bins count z samples lags from to pair

  -- the cell at a place
  abbrev pub cell_number : ℕ → Cell
  cell_number k = bin_cell_in bins (k / lags) z pair samples (lag_of lags (k % lags)) from to

  length-row : (b : ℕ) → length (row b) ≡ lags
  length-row b = length-map-range_with_len (λ i. bin_cell_in bins b z pair samples (lag_of lags i) from to) 0 lags

  pub length-bin_cells : length cells ≡ count * lags
  length-bin_cells = length-rows row lags length-row (range_with_len 0 count) ∙ ap (λ (n : ℕ). n * lags) (length-range_with_len 0 count)

  pub get_or-bin_cells : (k : ℕ) (d : Cell) → 0 < lags → k < count * lags → get_or cells k d ≡ cell_number k
  get_or-bin_cells k d some h =
      let b = k / lags in
      let i = k % lags in
      let whole : b * lags + i ≡ k = omega (arith, some) in
      let lag : i < lags = omega (arith, some) in
      let bin : b < count = quotient-lt k lags count h in
      let first : 0 + b ≡ b = omega arith in
      ap (λ (n : ℕ). get_or cells n d) (sym whole)
      ∙ get_or-rows row lags length-row (range_with_len 0 count) b i 0 d (omega (arith, bin, length-range_with_len 0 count)) lag
      ∙ ap (λ (n : ℕ). get_or (row n) i d) (get_or-range_with_len 0 count b 0 bin ∙ first)
      ∙ get_or-map-range_with_len (λ l. bin_cell_in bins b z pair samples (lag_of lags l) from to) 0 lags i i d lag (omega arith)

  -- they are small
  pub All-bin_cells : 0 < lags → AllLevelled z → All (λ c. IsGrown c (to - from)) cells
  All-bin_cells some all k d h =
      subst (λ (c : Cell). IsGrown c (to - from)) (sym (get_or-bin_cells k d some (omega (arith, h, length-bin_cells))))
      (IsGrown-bin_cell_in bins (k / lags) z pair samples (lag_of lags (k % lags)) all from to)

  -- cells that are these one by one
  pub are-bin_cells : (xs : List Cell) → 0 < lags → length xs ≡ count * lags
      → ((k : ℕ) (d : Cell) → k < count * lags → get_or xs k d ≡ cell_number k) → xs ≡ cells
  are-bin_cells xs some long each =
      same_lists xs cells (long ∙ sym length-bin_cells)
      (λ k d h.
      let inside : k < count * lags = omega (arith, h, long) in
      each k d inside ∙ sym (get_or-bin_cells k d some inside))

-- A run of one bin was added to the cells of its bin: they have come to the run's end, as those of the others have.
module _ (bins : ℕ → ℕ) (z : Samples) (samples lags : ℕ) (pair : Pair) (from at stop bin : ℕ) (old new stretch : List Cell) where
  abbrev to_end : ℕ → ℕ → Cell
  to_end end k = cell_number bins 0 z samples lags from end pair k

  module _ (some : 0 < lags) (begun : from ≤ at) (order : at ≤ stop) (same : (n : ℕ) → at ≤ n → n < stop → bins n ≡ bin)
      (sums : stretch ≡ pair_cells z samples lags at stop pair) where
    more : (k : ℕ) (d : Cell) → k / lags ≡ bin → get_or stretch (k % lags) d ≡ cell_number bins 0 z samples lags at stop pair k
    more k d is =
        let lag : k % lags < lags = omega (arith, some) in
        let f : ℕ → Cell = λ i. cell_in z pair samples (lag_of lags i) at stop in
        ap (λ (cs : List Cell). get_or cs (k % lags) d) sums
        ∙ get_or-map-range_with_len f 0 lags (k % lags) (k % lags) d lag (omega arith)
        ∙ sym (bin_cell_in-same bins (k / lags) z pair samples (lag_of lags (k % lags)) at stop (λ n h less. same n h less ∙ sym is))

    pub run-added : (k : ℕ) (d : Cell)
        → ((i : ℕ) → i < bin * lags → get_or new i d ≡ get_or old i d)
        → ((i : ℕ) → i < lags → get_or new (bin * lags + i) d ≡ cell_plus (get_or old (bin * lags + i) d) (get_or stretch i d))
        → ((i : ℕ) → bin * lags + lags ≤ i → get_or new i d ≡ get_or old i d)
        → get_or old k d ≡ to_end at k → get_or new k d ≡ to_end stop k
    run-added k d before here behind was =
        elim (cases_eq (k / lags) bin) [
          | inl is ↦
              let place : bin * lags + k % lags ≡ k = ap (λ (q : ℕ). q * lags + k % lags) (sym is) ∙ whole in
              subst (λ (j : ℕ). get_or new j d ≡ cell_plus (get_or old j d) (get_or stretch (k % lags) d)) place (here (k % lags) lag)
              ∙ ap (λ (c : Cell). cell_plus c (get_or stretch (k % lags) d)) was
              ∙ ap (cell_plus (to_end at k)) (more k d is)
              ∙ sym split
          | inr differ ↦
              kept differ ∙ was ∙ sym (cell_plus-none (to_end at k))
              ∙ ap (cell_plus (to_end at k))
              (sym (bin_cell_in-other bins (k / lags) z pair samples (lag_of lags (k % lags)) at stop (λ n h less e. differ (sym e ∙ same n h less))))
              ∙ sym split
        ]
      where
        lag : k % lags < lags
        lag = omega (arith, some)

        whole : k / lags * lags + k % lags ≡ k
        whole = omega (arith, some)

        split : to_end stop k ≡ cell_plus (to_end at k) (cell_number bins 0 z samples lags at stop pair k)
        split = bin_cell_in-split bins (k / lags) z pair samples (lag_of lags (k % lags)) from at stop begun order

        kept : k / lags ≢ bin → get_or new k d ≡ get_or old k d
        kept differ =
            elim (cases_lt k (bin * lags)) [
              | inl low ↦ before k low
              | inr high ↦ elim (cases_lt k (bin * lags + lags)) [
                | inl less ↦
                    let own : k ≡ bin * lags + (k - bin * lags) = omega (arith, high) in
                    absurd (differ (quotient_is k lags bin (k - bin * lags) own (omega (arith, high, less))).0)
                | inr past ↦ behind k past
              ]
            ]

-- the sums of an epoch of one bin are those of the epoch
pub bin_cells_in_epoch-one : (z : Samples) (pairs : List Pair) (samples : ℕ) (e : EpochPlan)
    → bin_cells_in_epoch z pairs samples e (λ n. 0) 1 ≡ cells_in_epoch z pairs samples e
bin_cells_in_epoch-one z pairs samples e = λ t. flat_map (λ pair. bin_cells-one z samples e.lags e.from e.to pair t) pairs

-- those over equal values are equal
pub bin_cells_in_epoch-values : (y z : Samples) (pairs : List Pair) (samples : ℕ) (e : EpochPlan) (bins : ℕ → ℕ) (count : ℕ)
    → ((station chan : ℕ) (n : ℤ) → station < 2 ^ 32 → chan < 2 ^ 32 → y station chan n ≡ z station chan n)
    → All IsNumbered pairs
    → bin_cells_in_epoch y pairs samples e bins count ≡ bin_cells_in_epoch z pairs samples e bins count
bin_cells_in_epoch-values y z [] samples e bins count same numbered = refl
bin_cells_in_epoch-values y z (pair ∷ pairs) samples e bins count same numbered =
    let own = All-head IsNumbered pair pairs numbered in
    ap₂ (λ (xs ys : List Cell). xs ++ ys)
    (bin_cells-values bins count y z pair pair samples e.lags e.from e.to (λ n. same pair.a pair.x n own.a own.x) (λ n. same pair.b pair.y n own.b own.y))
    (bin_cells_in_epoch-values y z pairs samples e bins count same (All-tail IsNumbered pair pairs numbered))
