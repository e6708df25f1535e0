-- The pieces of an epoch, and their amounts.
use Rattle.std.specs.Prelude.{flat_map, slice_get}
use Rattle.std.specs.Option.{option_map_or}
use Rattle.std.proofs.Common.{◌≡◌, ℕ, ◌+◌, ◌-◌, ◌*◌, ◌/◌, ◌%◌, ◌≤◌, ◌<◌, min, List, [], length, get_or, pos, Option, Some, refl, sym, ap, ◌∙◌, arith, All}
use Rattle.std.proofs.Math.Nat.{mul-le-mul_right}
use Rattle.std.proofs.lemmas.Nat.{div-add-mod'}
use Rattle.std.proofs.lemmas.Option.{same_Some}
use Rattle.std.proofs.lemmas.List.Elements.{All-from_get_or}
use Rattle.corr_model.specs.declared.cell.Cell.{Cell}
use Rattle.corr_model.specs.declared.cell.Pair.{Pair}
use Rattle.corr_model.proofs.CellLemmas.{IsGrown}
use Rattle.piece_plan.specs.declared.piece.Piece.{Piece}
use Rattle.piece_plan.specs.Parts.{part_at}
use Rattle.piece_plan.specs.Pieces.{IsCut, per_group, piece_of, pieces_of}
use Rattle.piece_plan.proofs.Quotients.{quotient_is}
use Rattle.piece_plan.proofs.PieceLemmas.{length-groups, piece-IsPiece, quotient-lt}
use Rattle.epoch_run.specs.Amounts.{WorkFields, amounts_in, amounts_of, bias_of, cells_of, cells_over, cut_of, pair_amounts, piece_amounts}
use Rattle.epoch_run.specs.Levelled.{IsWork}
use Rattle.epoch_run.specs.Part.{IsPart}
use Rattle.epoch_run.proofs.Parts.{amount_in, amount_in-most, part_amount}
use Rattle.epoch_run.proofs.Rows.{get_or-rows, length-rows}
use Rattle.epoch_run.proofs.WorkCells.{AddsUp-cell_over, cell_over, get_or-cells_over, length-cells_over}

-- an epoch that is summed is cut
pub IsCut-work : (w : WorkFields) → IsWork w → IsCut (cut_of w)
IsCut-work w is = record { epoch = is.summed.epoch; piece = omega (arith, is.summed.some) }

-- so many pieces
pub length-work : (w : WorkFields) → length (pieces_of (cut_of w)) ≡ w.epoch.products * w.epoch.baselines * per_group (cut_of w)
length-work w = length-groups (cut_of w)

-- a piece's samples
pub IsPart-piece : (w : WorkFields) (n : ℕ) (p : Piece) → IsWork w → n < length (pieces_of (cut_of w))
    → slice_get (pieces_of (cut_of w)) n ≡ Some p → IsPart w p
IsPart-piece w n p is inside at =
    let found = piece-IsPiece (cut_of w) n (IsCut-work w is) inside in
    let k = n % per_group (cut_of w) in
    let part = part_at w.epoch.from w.epoch.to w.piece k in
    let same =
    same_Some p (piece_of (n / per_group (cut_of w) / w.epoch.baselines) (n / per_group (cut_of w) % w.epoch.baselines) part)
    (sym at ∙ found.at) in
    let from : p.from ≡ w.epoch.from + k * w.piece = ap (λ (q : Piece). q.from) same in
    let to : p.to ≡ min (w.epoch.from + (k + 1) * w.piece) w.epoch.to = ap (λ (q : Piece). q.to) same in
    let begun : k * w.piece < w.epoch.to - w.epoch.from = found.begun in
    let short : p.to - p.from ≤ w.piece = omega (arith, from, to, begun) in
    record {
      order = omega (arith, from, to, begun);
      inside = omega (arith, to, is.summed.inside);
      scan = is.summed.scan;
      short = short;
      few = omega (arith, short, is.summed.most);
    }

-- a group's number is that of a pair
pub group-pair : (w : WorkFields) (n : ℕ) → IsWork w → n < w.epoch.products * w.epoch.baselines * per_group (cut_of w)
    → n / per_group (cut_of w) < length w.pairs
group-pair w n is inside =
    omega (arith, is.summed.groups, quotient-lt n (per_group (cut_of w)) (w.epoch.products * w.epoch.baselines) inside)

-- the amounts of a piece, by its group's pair
pub amounts_of-piece : (w : WorkFields) (n : ℕ) (p : Piece) (pair : Pair) → slice_get (pieces_of (cut_of w)) n ≡ Some p
    → slice_get w.pairs (p.product * w.epoch.baselines + p.baseline) ≡ Some pair
    → amounts_of w n ≡ pair_amounts w p.from p.to pair
amounts_of-piece w n p pair at there =
    ap (λ (o : Option Piece). option_map_or (piece_amounts w) o []) at
    ∙ ap (λ (o : Option Pair). option_map_or (pair_amounts w p.from p.to) o []) there

three : (bias : ℕ) (c : Cell) → length (amounts_in bias c) ≡ 3
three bias c = refl

-- they are small
pub amounts-within : (w : WorkFields) (p : Piece) (cells : List Cell) → IsPart w p → All (λ c. IsGrown c (p.to - p.from)) cells
    → All (λ a. a ≤ 900 * w.piece) (flat_map (amounts_in (bias_of (p.to - p.from))) cells)
amounts-within w p cells part within =
    All-from_get_or (λ a. a ≤ 900 * w.piece) (flat_map (amounts_in (bias_of (p.to - p.from))) cells) 0 each
  where
    each : (i : ℕ) → i < length (flat_map (amounts_in (bias_of (p.to - p.from))) cells)
        → get_or (flat_map (amounts_in (bias_of (p.to - p.from))) cells) i 0 ≤ 900 * w.piece
    each i h =
        let n = p.to - p.from in
        let f : Cell → List ℕ = amounts_in (bias_of n) in
        let none : Cell = record { re = pos 0; im = pos 0; count = 0 } in
        let place : i / 3 * 3 + i % 3 ≡ i = omega arith in
        let inside : i / 3 < length cells = omega (arith, h, length-rows f 3 (three (bias_of n)) cells) in
        let is : get_or (flat_map f cells) i 0 ≡ amount_in (i % 3) (bias_of n) (get_or cells (i / 3) none) =
        ap (λ (j : ℕ). get_or (flat_map f cells) j 0) (sym place)
        ∙ get_or-rows f 3 (three (bias_of n)) cells (i / 3) (i % 3) none 0 inside (omega arith) in
        omega (arith, is, amount_in-most (i % 3) (get_or cells (i / 3) none) n (within (i / 3) none inside), part.short)

-- number r of cell c in piece k of a group
pub amounts_of-at : (w : WorkFields) (is : IsWork w) (g k c r : ℕ) (pair : Pair) → g < w.epoch.products * w.epoch.baselines
    → k < per_group (cut_of w) → c < cells_of w → r < 3
    → slice_get w.pairs g ≡ Some pair
    → get_or (amounts_of w (g * per_group (cut_of w) + k)) (c * 3 + r) 0
    ≡ part_amount (cell_over w is pair c) (AddsUp-cell_over w is pair c) r w.epoch.from w.epoch.to w.piece
    (omega (arith, is.summed.epoch.some)) (omega (arith, is.summed.some)) k
amounts_of-at w is g k c r pair low less inside third there =
    let per = per_group (cut_of w) in
    let n = g * per + k in
    let split = quotient_is n per g k refl less in
    let more : (g + 1) * per ≤ w.epoch.products * w.epoch.baselines * per = mul-le-mul_right per (omega (arith, low)) in
    let all : n < length (pieces_of (cut_of w)) = omega (arith, more, less, length-work w) in
    let found = piece-IsPiece (cut_of w) n (IsCut-work w is) all in
    let part = part_at w.epoch.from w.epoch.to w.piece k in
    let p : Piece = piece_of (n / per / w.epoch.baselines) (n / per % w.epoch.baselines) part in
    let at : slice_get (pieces_of (cut_of w)) n ≡ Some p =
    found.at
    ∙ ap
    (λ (j : ℕ).
    Some (piece_of (n / per / w.epoch.baselines) (n / per % w.epoch.baselines) (part_at w.epoch.from w.epoch.to w.piece j)))
    split.1 in
    let group : p.product * w.epoch.baselines + p.baseline ≡ g = div-add-mod' (n / per) w.epoch.baselines ∙ split.0 in
    let f : Cell → List ℕ = amounts_in (bias_of (part.to - part.from)) in
    let cell : Cell = cell_over w is pair c part.from part.to in
    ap (λ (amounts : List ℕ). get_or amounts (c * 3 + r) 0)
    (amounts_of-piece w n p pair at (ap (slice_get w.pairs) group ∙ there))
    ∙ get_or-rows f 3 (three (bias_of (part.to - part.from))) (cells_over w part.from part.to pair) c r cell 0
    (omega (arith, inside, length-cells_over w is pair part.from part.to)) third
    ∙ ap (amount_in r (bias_of (part.to - part.from))) (get_or-cells_over w is pair part.from part.to c cell inside)
