-- The first place that has a property: how a search goes on to it, and that there is only one.
use Rattle.std.proofs.Common.{◌≡◌, ℕ, ◌+◌, ◌<◌, subst, ⊎_elim, arith}
use Rattle.std.proofs.str.Laws.{order}
use Rattle.vex_lex.specs.First.{NoneFrom, IsFirst}

-- Before a search has begun, it has passed nothing.
pub NoneFrom-start : (property : ℕ → Type 0) (from : ℕ) → NoneFrom property from from
NoneFrom-start property from = record { reached = omega arith; none = λ place below above. absurd (omega arith) }

-- A search goes on past a place that does not have the property.
pub NoneFrom-next : (property : ℕ → Type 0) (from at : ℕ) → NoneFrom property from at → ¬ property at → NoneFrom property from (at + 1)
NoneFrom-next property from at before not_here = record {
  reached = omega (arith, before.reached);
  none = λ place below above has.
      ⊎_elim
      (λ less. before.none place less above has)
      (λ at_least. let same : place ≡ at = omega arith in not_here (subst property same has))
      (order place at);
}

-- A search that passed all places up to a bound that each place with the property is below has found
-- that there is no first one.
pub NoneFrom-never : (property : ℕ → Type 0) (from bound : ℕ) → NoneFrom property from bound → ((place : ℕ) → property place → place < bound) → (place : ℕ) → ¬ IsFirst property from place
NoneFrom-never property from bound passed below place first =
    passed.none place (below place first.here) first.before.reached first.here

-- There is only one first place.
pub IsFirst-one : (property : ℕ → Type 0) (from a b : ℕ) → IsFirst property from a → IsFirst property from b → a ≡ b
IsFirst-one property from a b first_a first_b =
    ⊎_elim
    (λ less. absurd (first_b.before.none a less first_a.before.reached first_a.here))
    (λ at_least.
    ⊎_elim
    (λ less. absurd (first_a.before.none b less first_b.before.reached first_b.here))
    (λ at_most. omega arith)
    (order b a))
    (order a b)
