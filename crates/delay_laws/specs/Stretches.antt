-- The stretches of a range of samples on which something is the same.
use Rattle.std.specs.Prelude.{◌≡◌, ◌≢◌, ℕ, ◌-◌, ◌≤◌, ◌<◌, List, [], ◌∷◌, length}
use Rattle.std.specs.List.{All, AllAdjacentBelow}

-- the samples from `from` up to, not including, `to`, and what is the same at all of them
pub record Stretch (X : Type 0) : Type 0 where
  pub from : ℕ
  pub to : ℕ
  pub value : X

-- the stretches lie end to end, the first from `from` on and the last up to `to`; none where these are one
abbrev pub LieEndToEnd : {X : Type 0} → ℕ → ℕ → List (Stretch X) → Type 0
LieEndToEnd from to [] = from ≡ to
LieEndToEnd from to (stretch ∷ rest) = (stretch.from ≡ from) × LieEndToEnd stretch.to to rest

-- a stretch has a sample
abbrev pub HasSample : {X : Type 0} → Stretch X → Type 0
HasSample stretch = stretch.from < stretch.to

-- f is the value of a stretch at each of its samples
abbrev pub IsSameOn : {X : Type 0} → (ℕ → X) → Stretch X → Type 0
IsSameOn f stretch = (n : ℕ) → stretch.from ≤ n → n < stretch.to → f n ≡ stretch.value

-- f differs from the last sample of a stretch to the first of the next one
abbrev pub DiffersBetween : {X : Type 0} → (ℕ → X) → Stretch X → Stretch X → Type 0
DiffersBetween f stretch next = f (stretch.to - 1) ≢ f next.from

-- the stretches of a range: they cover it in order and nothing else, and f is the same within each and differs across
-- each border
pub record AreStretches {X : Type 0} (f : ℕ → X) (from to : ℕ) (stretches : List (Stretch X)) : Type 0 where
  pub cover : LieEndToEnd from to stretches
  pub some : All HasSample stretches
  pub same : All (IsSameOn f) stretches
  pub differ : AllAdjacentBelow (DiffersBetween f) stretches (length stretches)
