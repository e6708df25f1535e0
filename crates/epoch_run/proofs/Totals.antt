-- The totals of a closed board are the amounts of the epoch's cells.
use Rattle.std.specs.Prelude.{flat_map, slice_get, if◌then◌else◌}
use Rattle.std.specs.List.{range_with_len, sum_by}
use Rattle.std.proofs.Common.{◌≡◌, ℕ, ◌+◌, ◌-◌, ◌*◌, ◌/◌, ◌%◌, ◌^◌, ◌≤◌, ◌<◌, eqb, List, length, get_or, map, Some, refl, sym, ap, ◌∙◌, arith, All}
use Rattle.std.proofs.Math.Nat.{mod-lt}
use Rattle.std.proofs.lemmas.Nat.{div-add-mod'}
use Rattle.std.proofs.lemmas.List.{same_lists}
use Rattle.std.proofs.lemmas.List.Elements.{All-from_get_or}
use Rattle.std.proofs.lemmas.List.FromFn.{length-map-range_with_len, get_or-map-range_with_len}
use Rattle.std.proofs.lemmas.Option.{slice_get-get_or}
use Rattle.corr_model.specs.declared.cell.Cell.{Cell}
use Rattle.corr_model.specs.declared.cell.Pair.{Pair}
use Rattle.piece_claim.specs.declared.sizes.Sizes.{Sizes}
use Rattle.piece_claim.specs.State.{Piece, pieces, sums, sum_below, amount_at}
use Rattle.piece_claim.proofs.Numbers.{sum_by-same_in, sum_of_all, sum_below-agree}
use Rattle.piece_plan.specs.Pieces.{per_group}
use Rattle.piece_plan.proofs.Quotients.{quotient_is}
use Rattle.piece_plan.proofs.PieceLemmas.{per_group-some, quotient-lt}
use Rattle.atomic_sums.specs.Seats.{EachOnce}
use Rattle.atomic_sums.specs.Sums.{cell_at, totals_of, unbiased}
use Rattle.epoch_run.specs.Amounts.{WorkFields, IsBoardOf, HaveAmounts, amounts_of, bias_of, cells_of, cells_over, cut_of, work_cells}
use Rattle.epoch_run.specs.Levelled.{IsWork}
use Rattle.epoch_run.proofs.Parts.{amount_in, amount_in-most, cell-amounts, part_amount, all_parts}
use Rattle.epoch_run.proofs.Groups.{in_group, sum_below-group}
use Rattle.epoch_run.proofs.Pieces.{IsCut-work, amounts_of-at}
use Rattle.epoch_run.proofs.Rows.{get_or-rows, length-rows}
use Rattle.epoch_run.proofs.WorkCells.{AddsUp-cell_over, cell_over, cells-some, get_or-cells_over, length-cells_over}

whole_of : (i n : ℕ) → 0 < n → n * (i / n) + i % n ≡ i
whole_of i n some = omega (arith, some)

third_of : (n m : ℕ) → m ≡ 3 * n → m / 3 ≡ n
third_of n m is = omega (arith, is)

module _ (w : WorkFields) (k : Sizes) (finished : List Piece) (is : IsWork w) (board : IsBoardOf w k)
    (once : EachOnce (pieces k) finished) (have : HaveAmounts w finished) where
  abbrev per : ℕ
  per = per_group (cut_of w)

  abbrev samples_in : ℕ
  samples_in = w.epoch.to - w.epoch.from

  abbrev no_pair : Pair
  no_pair = record { a = 0; x = 0; b = 0; y = 0 }

  -- cell c of group g
  abbrev cell_of : ℕ → ℕ → Cell
  cell_of g c = cell_over w is (get_or w.pairs g no_pair) c w.epoch.from w.epoch.to

  -- what a finished piece adds to a sum of its group, by the piece's number
  abbrev adds : ℕ → ℕ → ℕ → ℕ
  adds g j n = if eqb (n / k.per_group) g then get_or (amounts_of w n) j 0 else 0

  sum-amounts : (x g j : ℕ) → x / k.width ≡ g → x % k.width ≡ j
      → sum_by (amount_at k x) finished ≡ sum_below (adds g j) (pieces k)
  sum-amounts x g j quotient rest =
      sum_by-same_in (amount_at k x) (λ p. adds (x / k.width) (x % k.width) p.number) finished
      (λ i d h.
      ap (λ (l : List ℕ). if eqb ((get_or finished i d).number / k.per_group) (x / k.width) then get_or l (x % k.width) 0 else 0)
      (have i d h))
      ∙ sum_of_all (λ (p : Piece). p.number) (adds (x / k.width) (x % k.width)) finished (pieces k) once.once once.no_other
      ∙ ap (λ (q : ℕ). sum_below (adds q (x % k.width)) (pieces k)) quotient
      ∙ ap (λ (q : ℕ). sum_below (adds g q) (pieces k)) rest

  -- sum r of cell l in group g
  sum-is : (g l r : ℕ) → g < w.epoch.products * w.epoch.baselines → l < cells_of w → r < 3
      → sum_by (amount_at k (g * k.width + (l * 3 + r))) finished ≡ amount_in r (bias_of samples_in) (cell_of g l)
  sum-is g l r low inside third =
      let place : l * 3 + r < k.width = omega (arith, board.width, inside, third) in
      let split = quotient_is (g * k.width + (l * 3 + r)) k.width g (l * 3 + r) refl place in
      let some : 0 < per = per_group-some (cut_of w) (IsCut-work w is) in
      let h : ℕ → ℕ = λ n. get_or (amounts_of w n) (l * 3 + r) 0 in
      let groups : pieces k ≡ w.epoch.products * w.epoch.baselines * per =
      ap (λ (n : ℕ). n * k.per_group) board.groups ∙ ap (λ (n : ℕ). w.epoch.products * w.epoch.baselines * n) board.per_group in
      let pair = get_or w.pairs g no_pair in
      let there : slice_get w.pairs g ≡ Some pair = slice_get-get_or w.pairs g no_pair (omega (arith, low, is.summed.groups)) in
      let order : w.epoch.from ≤ w.epoch.to = omega (arith, is.summed.epoch.some) in
      let step : 0 < w.piece = omega (arith, is.summed.some) in
      sum-amounts (g * k.width + (l * 3 + r)) g (l * 3 + r) split.0 split.1
      ∙ ap (λ (q : ℕ). sum_below (λ n. if eqb (n / q) g then h n else 0) (pieces k)) board.per_group
      ∙ ap (sum_below (in_group h per g some)) groups
      ∙ sum_below-group h per g some (w.epoch.products * w.epoch.baselines) low
      ∙ sum_below-agree (λ n. h (g * per + n))
      (part_amount (cell_over w is pair l) (AddsUp-cell_over w is pair l) r w.epoch.from w.epoch.to w.piece order step)
      per
      (λ n lt. amounts_of-at w is g n l r pair low lt inside third there)
      ∙ all_parts (cell_over w is pair l) (AddsUp-cell_over w is pair l) r w.epoch.from w.epoch.to w.piece order step

  abbrev totals : List ℕ
  totals = (totals_of k finished).totals

  pub length-totals : length totals ≡ 3 * (w.epoch.products * w.epoch.baselines * cells_of w)
  length-totals =
      length-map-range_with_len (λ x. sum_by (amount_at k x) finished) 0 (sums k)
      ∙ ap (λ (n : ℕ). n * k.width) board.groups ∙ ap (λ (n : ℕ). w.epoch.products * w.epoch.baselines * n) board.width
      ∙ omega arith

  -- total r of cell i
  total-is : (i r : ℕ) → i < w.epoch.products * w.epoch.baselines * cells_of w → r < 3
      → get_or totals (3 * i + r) 0 ≡ amount_in r (bias_of samples_in) (cell_of (i / cells_of w) (i % cells_of w))
  total-is i r inside third =
      let many = cells_of w in
      let some : 0 < many = cells-some w is in
      let whole : many * (i / many) + i % many ≡ i = whole_of i many some in
      let cell : i % many < many = mod-lt i some in
      let group : i / many < w.epoch.products * w.epoch.baselines =
      quotient-lt i many (w.epoch.products * w.epoch.baselines) inside in
      let wide : i / many * k.width ≡ 3 * (many * (i / many)) = ap (λ (n : ℕ). i / many * n) board.width ∙ omega arith in
      let place : 3 * i + r ≡ i / many * k.width + (i % many * 3 + r) = omega (arith, whole, wide) in
      let all : length totals ≡ sums k = length-map-range_with_len (λ x. sum_by (amount_at k x) finished) 0 (sums k) in
      let there : 3 * i + r < sums k = omega (arith, all, length-totals, inside, third) in
      get_or-map-range_with_len (λ x. sum_by (amount_at k x) finished) 0 (sums k) (3 * i + r) (3 * i + r) 0 there (omega arith)
      ∙ ap (λ (x : ℕ). sum_by (amount_at k x) finished) place
      ∙ sum-is (i / many) (i % many) r group cell third

  pub totals-small : All (λ t. t < 2 ^ 62) totals
  totals-small = All-from_get_or (λ t. t < 2 ^ 62) totals 0 each
    where
      each : (x : ℕ) → x < length totals → get_or totals x 0 < 2 ^ 62
      each x h =
          let place : 3 * (x / 3) + x % 3 ≡ x = omega arith in
          let c = cell_of (x / 3 / cells_of w) (x / 3 % cells_of w) in
          let is_amount = total-is (x / 3) (x % 3) (omega (arith, h, length-totals)) (omega arith) in
          let most = amount_in-most (x % 3) c samples_in
          ((AddsUp-cell_over w is (get_or w.pairs (x / 3 / cells_of w) no_pair) (x / 3 % cells_of w)).within w.epoch.from w.epoch.to) in
          omega (arith, ap (λ (y : ℕ). get_or totals y 0) place, is_amount, most, is.summed.epoch.short)

  abbrev rows : Pair → List Cell
  rows = cells_over w w.epoch.from w.epoch.to

  abbrev found : List Cell
  found = map (cell_at (bias_of samples_in) totals) (range_with_len 0 (length totals / 3))

  abbrev wanted : List Cell
  wanted = flat_map rows w.pairs

  -- the cells without the bias are those of the epoch
  pub cells-epoch : (unbiased (bias_of samples_in) (totals_of k finished)).cells ≡ work_cells w
  cells-epoch = same_lists found wanted (many ∙ sym all) each
    where
      length-row : (pair : Pair) → length (rows pair) ≡ cells_of w
      length-row pair = length-cells_over w is pair w.epoch.from w.epoch.to

      thirds : length totals / 3 ≡ w.epoch.products * w.epoch.baselines * cells_of w
      thirds = third_of (w.epoch.products * w.epoch.baselines * cells_of w) (length totals) length-totals

      many : length found ≡ w.epoch.products * w.epoch.baselines * cells_of w
      many = length-map-range_with_len (cell_at (bias_of samples_in) totals) 0 (length totals / 3) ∙ thirds

      all : length wanted ≡ w.epoch.products * w.epoch.baselines * cells_of w
      all = length-rows rows (cells_of w) length-row w.pairs ∙ ap (λ (n : ℕ). n * cells_of w) is.summed.groups

      each : (i : ℕ) (d : Cell) → i < length found → get_or found i d ≡ get_or wanted i d
      each i d h =
          let cells = cells_of w in
          let some : 0 < cells = cells-some w is in
          let whole : i / cells * cells + i % cells ≡ i = div-add-mod' i cells in
          let place : i % cells < cells = mod-lt i some in
          let inside : i < w.epoch.products * w.epoch.baselines * cells = omega (arith, h, many) in
          let group : i / cells < w.epoch.products * w.epoch.baselines =
          quotient-lt i cells (w.epoch.products * w.epoch.baselines) inside in
          let pair = get_or w.pairs (i / cells) no_pair in
          let cell = cell_over w is pair (i % cells) w.epoch.from w.epoch.to in
          let first : 3 * i ≡ 3 * i + 0 = omega arith in
          let within = (AddsUp-cell_over w is pair (i % cells)).within w.epoch.from w.epoch.to in
          get_or-map-range_with_len (cell_at (bias_of samples_in) totals) 0 (length totals / 3) i i d
          (omega (arith, inside, thirds)) (omega arith)
          ∙ cell-amounts cell samples_in (get_or totals (3 * i) 0) (get_or totals (3 * i + 1) 0)
          (get_or totals (3 * i + 2) 0) within
          (ap (λ (x : ℕ). get_or totals x 0) first ∙ total-is i 0 inside (omega arith))
          (total-is i 1 inside (omega arith))
          (total-is i 2 inside (omega arith))
          ∙ sym (get_or-cells_over w is pair w.epoch.from w.epoch.to (i % cells) d place)
          ∙ sym (get_or-rows rows cells length-row w.pairs (i / cells) (i % cells) no_pair d (omega (arith, group, is.summed.groups)) place)
          ∙ ap (λ (x : ℕ). get_or wanted x d) whole
