-- Rows of cells that are added place by place.
use Rattle.std.specs.Prelude.{flat_map, replicate}
use Rattle.std.proofs.Common.{◌≡◌, ◌∙◌, refl, ap, ℕ, ◌+◌, ◌*◌, List, [], ◌∷◌, ◌++◌, length, map, arith}
use Rattle.std.proofs.lemmas.List.{length-append, replicate-append-replicate}
use Rattle.corr_model.specs.declared.cell.Cell.{Cell}
use Rattle.job_epochs.specs.Added.{plus_wrapped, add_cells}

add_cells-append : (a b c d : List Cell) → length a ≡ length c → add_cells (a ++ b) (c ++ d) ≡ add_cells a c ++ add_cells b d
add_cells-append [] b [] d h = refl
add_cells-append [] b (y ∷ c) d h = absurd (omega (arith, h))
add_cells-append (x ∷ a) b [] d h = absurd (omega (arith, h))
add_cells-append (x ∷ a) b (y ∷ c) d h =
    let less : length a ≡ length c = omega (arith, h) in
    ap (λ (cells : List Cell). plus_wrapped x y ∷ cells) (add_cells-append a b c d less)

pub add_cells-map : {X : Type 0} (f g h : X → Cell) (xs : List X) → ((x : X) → plus_wrapped (f x) (g x) ≡ h x)
    → add_cells (map f xs) (map g xs) ≡ map h xs
add_cells-map f g h [] each = refl
add_cells-map f g h (x ∷ xs) each =
    ap (λ (c : Cell). c ∷ add_cells (map f xs) (map g xs)) (each x)
    ∙ ap (λ (cells : List Cell). h x ∷ cells) (add_cells-map f g h xs each)

pub add_cells-rows : {X : Type 0} (f g h : X → List Cell) (xs : List X) → ((x : X) → length (f x) ≡ length (g x))
    → ((x : X) → add_cells (f x) (g x) ≡ h x)
    → add_cells (flat_map f xs) (flat_map g xs) ≡ flat_map h xs
add_cells-rows f g h [] long each = refl
add_cells-rows f g h (x ∷ xs) long each =
    add_cells-append (f x) (flat_map f xs) (g x) (flat_map g xs) (long x)
    ∙ ap (λ (cells : List Cell). cells ++ add_cells (flat_map f xs) (flat_map g xs)) (each x)
    ∙ ap (λ (cells : List Cell). h x ++ cells) (add_cells-rows f g h xs long each)

-- rows of one length
pub length-rows : {A B : Type 0} (f : A → List B) (w : ℕ) (xs : List A) → ((x : A) → length (f x) ≡ w)
    → length (flat_map f xs) ≡ length xs * w
length-rows f w [] each = omega arith
length-rows f w (x ∷ xs) each =
    let one = each x in
    let more = length-rows f w xs each in
    length-append (f x) (flat_map f xs) ∙ omega (arith, one, more)

-- rows that repeat one thing
pub map-same : {X A : Type 0} (f : X → A) (a : A) (xs : List X) → ((x : X) → f x ≡ a) → map f xs ≡ replicate (length xs) a
map-same f a [] each = refl
map-same {A = A} f a (x ∷ xs) each =
    ap (λ (y : A). y ∷ map f xs) (each x) ∙ ap (λ (ys : List A). a ∷ ys) (map-same f a xs each)

pub rows-same : {X A : Type 0} (f : X → List A) (a : A) (w : ℕ) (xs : List X) → ((x : X) → f x ≡ replicate w a)
    → flat_map f xs ≡ replicate (length xs * w) a
rows-same {X = X} {A = A} f a w [] each =
    let none : 0 ≡ length {A = X} [] * w = omega arith in
    ap (λ (n : ℕ). replicate n a) none
rows-same {A = A} f a w (x ∷ xs) each =
    let count : w + length xs * w ≡ length (x ∷ xs) * w = omega arith in
    ap (λ (ys : List A). ys ++ flat_map f xs) (each x)
    ∙ ap (λ (ys : List A). replicate w a ++ ys) (rows-same f a w xs each)
    ∙ replicate-append-replicate w (length xs * w) a
    ∙ ap (λ (n : ℕ). replicate n a) count
