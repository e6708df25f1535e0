-- A thing, or the first fault that kept it from being read.
use Rattle.std.specs.Prelude.{◌≡◌, ◌⊎◌, List, [], ◌∷◌, ◌++◌, Option, Some, None, Result, Ok, Err}

-- the step that stands behind one, where that gave something
infixl 10 ◌>>=◌
abbrev pub ◌>>=◌ : {E A B : Type 0} → Result A E → (A → Result B E) → Result B E
(Ok x) >>= f = f x
(Err e) >>= f = Err e

-- what is there, or a fault where nothing is
abbrev pub or_fault : {E A : Type 0} → Option A → E → Result A E
or_fault (Some x) fault = Ok x
or_fault None fault = Err fault

-- what is read of each thing in its turn, knowing what was read before it, or the first fault
abbrev pub in_turn : {E A B : Type 0} → (List B → A → Result B E) → List B → List A → Result (List B) E
in_turn read before [] = Ok before
in_turn read before (x ∷ xs) = read before x >>= λ y. in_turn read (before ++ y ∷ []) xs

-- the answer, seen by `view`
abbrev pub seen : {E X Y : Type 0} → (X → Y) → Result X E → Result Y E
seen view (Ok x) = Ok (view x)
seen view (Err e) = Err e

-- the answer, seen by `view`, is the wanted one, or want of memory
abbrev pub Gives : {E X Y : Type 0} → E → (X → Y) → Result X E → Result Y E → Type 0
Gives memory view (Ok x) wanted = wanted ≡ Ok (view x)
Gives memory view (Err e) wanted = (e ≡ memory) ⊎ (wanted ≡ Err e)
