-- Things by their names.
use Rattle.std.specs.Prelude.{ℕ, List, [], ◌∷◌, map, Option, None, Some, bytes_eq, if◌then◌else◌}

-- What stands under a name, none where it is not there.
abbrev pub named : {A : Type 0} → List (List ℕ × A) → List ℕ → Option A
named [] name = None
named (x ∷ xs) name = if bytes_eq x.0 name then Some x.1 else named xs name

-- The things with one put under a name: in the place of what stands under it, else behind all others.
abbrev pub put : {A : Type 0} → List (List ℕ × A) → List ℕ → A → List (List ℕ × A)
put [] name thing = (name, thing) ∷ []
put (x ∷ xs) name thing = if bytes_eq x.0 name then (x.0, thing) ∷ xs else x ∷ put xs name thing

-- The names, in their order.
abbrev pub names : {A : Type 0} → List (List ℕ × A) → List (List ℕ)
names = map (λ x. x.0)
