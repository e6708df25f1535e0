-- The first place that has a property.
use Rattle.std.specs.Prelude.{ℕ, ◌<◌, ◌≤◌}

-- No place from `from` on and before `to` has the property.
pub record NoneFrom (property : ℕ → Type 0) (from to : ℕ) : Type 0 where
  pub reached : from ≤ to
  pub none : (place : ℕ) → place < to → from ≤ place → ¬ property place

-- The place is the first from `from` on that has the property.
pub record IsFirst (property : ℕ → Type 0) (from place : ℕ) : Type 0 where
  pub before : NoneFrom property from place
  pub here : property place
