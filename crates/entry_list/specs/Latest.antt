-- Entries that are in force from a second on, until the next one is.
use Rattle.std.specs.Prelude.{◌≡◌, ◌≢◌, ℕ, ◌<◌, List, [], ◌∷◌, length, slice_index_or, ◌⊎◌, ◌&&◌, if◌then◌else◌, Option, Some, None, MatchOption, ℤ, ◌<ℤ◌, ◌≤ℤ◌, int_le, int_lt}
use Rattle.std.specs.List.{All, Contains}

-- no two entries begin at one second
abbrev pub DifferInSecond : {E : Type 0} → (E → ℤ) → List E → Type 0
DifferInSecond {E} second_of entries =
    (i j : ℕ) (d : E) → i < j → j < length entries
    → second_of (slice_index_or entries i d) ≢ second_of (slice_index_or entries j d)

-- The latest of the entries that begin at the second or before: it is one of them, and none of them begins after it.
pub record IsLatest {E : Type 0} (second_of : E → ℤ) (entries : List E) (second : ℤ) (entry : E) : Type 0 where
  pub among : Contains entries entry
  pub not_after : second_of entry ≤ℤ second
  pub latest : All (λ x. second_of x ≤ℤ second → second_of x ≤ℤ second_of entry) entries

-- that entry, or none where all begin after the second
abbrev pub IsInForce : {E : Type 0} → (E → ℤ) → List E → ℤ → Option E → Type 0
IsInForce second_of entries second found =
    MatchOption found (All (λ x. second <ℤ second_of x) entries) (IsLatest second_of entries second)

-- The second at which the next entry begins: one of the entries begins there, and no entry begins between.
pub record IsNextSecond {E : Type 0} (second_of : E → ℤ) (entries : List E) (second next : ℤ) : Type 0 where
  pub entry : E
  pub among : Contains entries entry
  pub begins : second_of entry ≡ next
  pub after : second <ℤ next
  pub first : All (λ x. second <ℤ second_of x → next ≤ℤ second_of x) entries

-- that second, or none where no entry begins later
abbrev pub IsNext : {E : Type 0} → (E → ℤ) → List E → ℤ → Option ℤ → Type 0
IsNext second_of entries second found =
    MatchOption found (All (λ x. second_of x ≤ℤ second) entries) (IsNextSecond second_of entries second)

-- the later of an entry in force and a further one, where that one is in force
abbrev pub IsLater : {E : Type 0} → (E → ℤ) → Option E → E → ℤ → Option E → Type 0
IsLater second_of latest x second found =
    ((second_of x ≤ℤ second) × MatchOption latest (Unit {0}) (λ e. second_of e <ℤ second_of x) × (found ≡ Some x))
    ⊎ (((second <ℤ second_of x) ⊎ MatchOption latest ⊥ (λ e. second_of x ≤ℤ second_of e)) × (found ≡ latest))

-- The entry in force as a function: of an entry and the one in force among the others, that which begins later
-- and not after the second.
abbrev pub later_of : {E : Type 0} → (E → ℤ) → E → Option E → ℤ → Option E
later_of second_of x None second = if int_le (second_of x) second then Some x else None
later_of second_of x (Some e) second =
    if int_le (second_of x) second && int_lt (second_of e) (second_of x) then Some x else Some e

unfoldable pub in_force : {E : Type 0} → (E → ℤ) → List E → ℤ → Option E
in_force second_of [] second = None
in_force second_of (x ∷ entries) second = later_of second_of x (in_force second_of entries second) second
