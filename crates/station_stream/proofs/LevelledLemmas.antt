-- Each component of a value of a stream is at most 15 in magnitude.
use Rattle.std.specs.Prelude.{int_le, int_lt, ◌&&◌, if◌then◌else◌, IfSome}
use Rattle.std.proofs.Common.{◌≡◌, ℕ, zero, suc, ◌+◌, ◌*◌, ◌/◌, ◌%◌, ◌≤◌, ◌<◌, refl, Bool, true, false, eqb, ltb, ℤ, pos, ◌-ℤ◌, ◌*ℤ◌, unsigned_abs, List, [], ◌∷◌, get_or, map, Some, None, subst, sym, arith}
use Rattle.std.proofs.lemmas.Int.{unsigned_abs-mul}
use Rattle.std.proofs.lemmas.Bool.{agree_below_at, ltb-true}
use Rattle.std.proofs.lemmas.Nat.{mul-le}
use Rattle.fringe_rotator.specs.Table.{cosines, cos3, sin3}
use Rattle.corr_model.specs.Cell.{Value}
use Rattle.corr_model.specs.Rotated.{turned}
use Rattle.value_codes.specs.Codes.{value_of, turned_by, half_level}
use Rattle.station_stream.specs.Stream.{StreamFields, windowed, IsLevelPart, AreLevelled}

-- each number of the list is -1, 0 or 1
AreUnits : List ℤ → Type 0
AreUnits [] = Unit {0}
AreUnits (x ∷ xs) = (unsigned_abs x ≤ 1) × AreUnits xs

get_or-unit : (xs : List ℤ) (k : ℕ) → AreUnits xs → unsigned_abs (get_or xs k (pos 0)) ≤ 1
unfolding AreUnits
get_or-unit [] k h = omega arith
get_or-unit (x ∷ xs) zero h = h.0
get_or-unit (x ∷ xs) (suc k) h = get_or-unit xs k h.1

cosines-units : AreUnits cosines
unfolding AreUnits
cosines-units =
    let one : 1 ≤ 1 = omega arith in
    let none : 0 ≤ 1 = omega arith in
    (one, (one, (one, (none, (none, (one, (one, (one, (one, (one, (one, (none, (none, (one, (one, (one, tt))))))))))))))))

cos3-unit : (k : ℕ) → unsigned_abs (cos3 k) ≤ 1
cos3-unit k = get_or-unit cosines k cosines-units

-- the levels are at most 15 in magnitude
half_level-part : (half : ℕ) → half < 16 → unsigned_abs (half_level half) < 16
half_level-part half h = ltb-true _ 16 (agree_below_at (λ n. ltb (unsigned_abs (half_level n)) 16) (λ _. true) 16 half refl h)

-- and so they are times -1, 0 or 1
IsLevelPart-times : (x y : ℤ) → unsigned_abs x < 16 → unsigned_abs y ≤ 1 → IsLevelPart (x *ℤ y)
IsLevelPart-times x y small unit =
    omega (arith, small, unsigned_abs-mul x y, mul-le (unsigned_abs x) (unsigned_abs y) (unsigned_abs x) 1 (omega arith) unit)

AreLevelled-turned : (half sector : ℕ) → half < 16 → AreLevelled (turned (half_level half) sector)
AreLevelled-turned half sector h =
    let small = half_level-part half h in
    (IsLevelPart-times (half_level half) (cos3 sector) small (cos3-unit sector), IsLevelPart-times (half_level half) (sin3 sector) small (cos3-unit ((sector + 12) % 16)))

AreLevelled-value_of : (code : ℕ) → IfSome (value_of code) AreLevelled
AreLevelled-value_of code = by (eqb (code / 8 % 2) 0)
  where
    by : (none : Bool) → IfSome (if none then None else Some (turned_by (half_level (code / 16 % 16)) (code % 8))) AreLevelled
    by true = tt
    by false = AreLevelled-turned (code / 16 % 16) (2 * (code % 8)) (omega arith)

-- the values of a list of bytes, and of none past its end
pub AreLevelled-codes : (codes : List ℕ) (k : ℕ) → IfSome (get_or (map value_of codes) k None) AreLevelled
AreLevelled-codes [] k = tt
AreLevelled-codes (code ∷ codes) zero = AreLevelled-value_of code
AreLevelled-codes (code ∷ codes) (suc k) = AreLevelled-codes codes k

module _ {A : Type 0} (items : A → List ℕ) where
  AreLevelled-lists : (lists : List A) (chan k : ℕ) → IfSome (get_or (get_or (map (λ l. map value_of (items l)) lists) chan []) k None) AreLevelled
  AreLevelled-lists [] chan k = tt
  AreLevelled-lists (l ∷ lists) zero k = AreLevelled-codes (items l) k
  AreLevelled-lists (l ∷ lists) (suc chan) k = AreLevelled-lists lists chan k

  pub AreLevelled-windowed : (s : StreamFields) (lists : List A) (chan : ℕ) (n : ℤ) → s.values ≡ map (λ l. map value_of (items l)) lists
      → IfSome (windowed s chan n) AreLevelled
  AreLevelled-windowed s lists chan n is = by (int_le s.from n && int_lt n s.to)
    where
      there : IfSome (get_or (get_or s.values chan []) (unsigned_abs (n -ℤ s.from)) None) AreLevelled
      there = subst (λ (values : List (List Value)). IfSome (get_or (get_or values chan []) (unsigned_abs (n -ℤ s.from)) None) AreLevelled) (sym is)
          (AreLevelled-lists lists chan (unsigned_abs (n -ℤ s.from)))

      by : (inside : Bool) → IfSome (if inside then get_or (get_or s.values chan []) (unsigned_abs (n -ℤ s.from)) None else None) AreLevelled
      by true = there
      by false = tt
