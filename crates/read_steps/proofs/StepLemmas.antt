-- What follows of steps and of things read in turn.
use Rattle.std.proofs.Common.{◌≡◌, ◌⊎◌, inl, inr, List, [], ◌∷◌, ◌++◌, Option, Some, None, Result, Ok, Err, refl, sym, ◌∙◌}
use Rattle.read_steps.specs.Steps.{◌>>=◌, or_fault, in_turn}

-- two steps gave something: the first did, and the one behind it
pub bind-ok : {E A B : Type 0} (r : Result A E) (f : A → Result B E) (y : B) → (r >>= f) ≡ Ok y → (x : A) × (r ≡ Ok x) × (f x ≡ Ok y)
bind-ok (Ok x) f y is = (x, refl, is)
bind-ok (Err e) f y is = absurd cc

pub bind-to : {E A B : Type 0} (r : Result A E) (f : A → Result B E) (x : A) (y : B) → r ≡ Ok x → f x ≡ Ok y → (r >>= f) ≡ Ok y
bind-to r f x y one two = rw one two

-- what was not a fault is there
pub or_fault-ok : {E A : Type 0} (o : Option A) (fault : E) (x : A) → or_fault o fault ≡ Ok x → o ≡ Some x
or_fault-ok (Some y) fault x is = cc
or_fault-ok None fault x is = absurd cc

pub or_fault-to : {E A : Type 0} (o : Option A) (fault : E) (x : A) → o ≡ Some x → or_fault o fault ≡ Ok x
or_fault-to o fault x is = rw is refl

-- behind one that was read the others are read
pub in_turn-read : {E A B : Type 0} (read : List B → A → Result B E) (before items : List B) (xs ys : List A) (x : A) (y : B) (whole : Result (List B) E)
    → xs ≡ x ∷ ys → read before x ≡ Ok y → items ≡ before ++ y ∷ [] → in_turn read before xs ≡ whole → in_turn read items ys ≡ whole
in_turn-read read before items xs ys x y whole is one more so_far =
    let here : in_turn read before xs ≡ in_turn read (before ++ y ∷ []) ys = rw (is, one) refl in
    rw more (sym here ∙ so_far)

-- the answer at one that has a fault is the answer for all, as is want of memory
pub in_turn-ends : {E A B : Type 0} (memory : E) (read : List B → A → Result B E) (before : List B) (xs ys : List A) (x : A) (e : E) (whole : Result (List B) E)
    → xs ≡ x ∷ ys → (e ≡ memory) ⊎ (read before x ≡ Err e) → in_turn read before xs ≡ whole → (e ≡ memory) ⊎ (whole ≡ Err e)
in_turn-ends memory read before xs ys x e whole is (inl want) so_far = inl want
in_turn-ends memory read before xs ys x e whole is (inr one) so_far =
    let here : in_turn read before xs ≡ Err e = rw (is, one) refl in
    inr (sym so_far ∙ here)
