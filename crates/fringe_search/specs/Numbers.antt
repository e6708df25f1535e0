-- Numbers at the front of a text.
use Rattle.std.specs.Prelude.{◌≡◌, ℕ, ◌^◌, ◌<◌, ℤ, List, ◌∷◌, ◌++◌, decimal, FitsSigned}
use Rattle.std.specs.Int.{w32}
use Rattle.std.specs.Fmt.{signed_decimal}

-- a text begins with a number and a byte that ends it, and goes on with `behind`
pub record IsNumberThen (n stop : ℕ) (text behind : List ℕ) : Type 0 where
  pub within : n < 2 ^ 32
  pub is : text ≡ decimal n ++ stop ∷ behind

-- a text begins with no number and that byte
abbrev pub HasNoNumber : ℕ → List ℕ → Type 0
HasNoNumber stop text = (n : ℕ) (behind : List ℕ) → ¬ IsNumberThen n stop text behind

-- the same of a number that may be below zero
pub record IsSignedThen (z : ℤ) (stop : ℕ) (text behind : List ℕ) : Type 0 where
  pub within : FitsSigned w32 z
  pub is : text ≡ signed_decimal z ++ stop ∷ behind

abbrev pub HasNoSigned : ℕ → List ℕ → Type 0
HasNoSigned stop text = (z : ℤ) (behind : List ℕ) → ¬ IsSignedThen z stop text behind
