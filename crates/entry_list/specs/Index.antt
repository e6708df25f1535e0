-- The entries by their seconds.
use Rattle.std.specs.Prelude.{◌≡◌, Option, Some, None, MatchOption, IsSome, List, ℤ, ◌<ℤ◌, ◌≤ℤ◌}
use Rattle.std.specs.List.{All, Contains}
use Rattle.std.specs.Ordering.{int_cmp}
use Rattle.std.specs.BTreeMap.{BTreeMap, get}

-- under each second the map has the entry that begins there, and nothing else
pub record IsIndex {E : Type 0} (second_of : E → ℤ) (entries : List E) (index : BTreeMap ℤ E) : Type 0 where
  pub each : All (λ e. get int_cmp index (second_of e) ≡ Some e) entries
  pub among : (k : ℤ) (e : E) → get int_cmp index k ≡ Some e → Contains entries e
  pub second : (k : ℤ) (e : E) → get int_cmp index k ≡ Some e → second_of e ≡ k

-- what stands under the greatest second up to this one
pub record IsUnderGreatest {E : Type 0} (index : BTreeMap ℤ E) (second : ℤ) (e : E) : Type 0 where
  pub key : ℤ
  pub begun : key ≤ℤ second
  pub at : get int_cmp index key ≡ Some e
  pub greatest : (q : ℤ) → q ≤ℤ second → IsSome (get int_cmp index q) → q ≤ℤ key

abbrev pub IsGreatestUpTo : {E : Type 0} → BTreeMap ℤ E → ℤ → Option E → Type 0
IsGreatestUpTo index second found =
    MatchOption found ((q : ℤ) → q ≤ℤ second → get int_cmp index q ≡ None) (IsUnderGreatest index second)

-- the least second after this one
pub record IsLeastKey {E : Type 0} (index : BTreeMap ℤ E) (second key : ℤ) : Type 0 where
  pub after : second <ℤ key
  pub there : IsSome (get int_cmp index key)
  pub least : (q : ℤ) → second <ℤ q → IsSome (get int_cmp index q) → key ≤ℤ q

abbrev pub IsLeastAfter : {E : Type 0} → BTreeMap ℤ E → ℤ → Option ℤ → Type 0
IsLeastAfter index second found =
    MatchOption found ((q : ℤ) → second <ℤ q → get int_cmp index q ≡ None) (IsLeastKey index second)
