-- Cells that are added place by place.
use Rattle.std.proofs.Common.{◌≡◌, ◌∙◌, sym, ap, refl, ℕ, zero, suc, ◌+◌, ◌<◌, ◌≤◌, min, List, [], ◌∷◌, length, take, get_or, arith}
use Rattle.std.proofs.Math.ListN.{set}
use Rattle.corr_model.specs.declared.cell.Cell.{Cell}
use Rattle.job_epochs.specs.Added.{add_cells, plus_wrapped}

add_cells-none : (xs : List Cell) → add_cells xs [] ≡ xs
add_cells-none [] = refl
add_cells-none (x ∷ xs) = refl

pub add_cells-start : (xs ys : List Cell) → xs ≡ add_cells xs (take 0 ys)
add_cells-start xs ys = sym (add_cells-none xs)

-- one place more
pub add_cells-next : (xs ys : List Cell) (i : ℕ) (d : Cell) → i < length xs → i < length ys
    → set (add_cells xs (take i ys)) i (plus_wrapped (get_or (add_cells xs (take i ys)) i d) (get_or ys i d)) ≡ add_cells xs (take (i + 1) ys)
add_cells-next [] ys i d within other = absurd (omega (arith, within))
add_cells-next (x ∷ xs) [] i d within other = absurd (omega (arith, other))
add_cells-next (x ∷ xs) (y ∷ ys) zero d within other = ap (λ (cells : List Cell). plus_wrapped x y ∷ cells) (sym (add_cells-none xs))
add_cells-next (x ∷ xs) (y ∷ ys) (suc i) d within other =
    let next : suc i + 1 ≡ suc (i + 1) = omega arith in
    ap (λ (cells : List Cell). plus_wrapped x y ∷ cells) (add_cells-next xs ys i d (omega (arith, within)) (omega (arith, other)))
    ∙ ap (λ n. add_cells (x ∷ xs) (take n (y ∷ ys))) (sym next)

-- all places
pub add_cells-all : (xs ys : List Cell) (n : ℕ) → min (length xs) (length ys) ≤ n → add_cells xs (take n ys) ≡ add_cells xs ys
add_cells-all [] ys n all = refl
add_cells-all (x ∷ xs) [] zero all = refl
add_cells-all (x ∷ xs) [] (suc n) all = refl
add_cells-all (x ∷ xs) (y ∷ ys) zero all = absurd (omega (arith, all))
add_cells-all (x ∷ xs) (y ∷ ys) (suc n) all = ap (λ (cells : List Cell). plus_wrapped x y ∷ cells) (add_cells-all xs ys n (omega (arith, all)))

pub length-add_cells : (xs ys : List Cell) → length (add_cells xs ys) ≡ length xs
length-add_cells [] ys = refl
length-add_cells (x ∷ xs) [] = refl
length-add_cells (x ∷ xs) (y ∷ ys) = ap suc (length-add_cells xs ys)
