-- The grammar of a number in text: a sign or none, digits, a point or none and digits behind it.
use Rattle.std.specs.Prelude.{◌≡◌, ℕ, ◌⊎◌, Bool, true, false, List, [], ◌∷◌, ◌++◌}
use Rattle.num_time.specs.Numerals.{are_digits}

-- a minus, 45, is the sign of a negative number, and a plus, 43, or none that of another
abbrev pub IsSign : Bool → List ℕ → Type 0
IsSign true sign = sign ≡ 45 ∷ []
IsSign false sign = (sign ≡ []) ⊎ (sign ≡ 43 ∷ [])

-- digits stand behind a point, 46, and where there is none there are none
abbrev pub IsPoint : List ℕ → List ℕ → Type 0
IsPoint point back = (point ≡ 46 ∷ []) ⊎ ((point ≡ []) × (back ≡ []))

-- the text is a sign, the digits of front, a point and the digits of back, and there is a digit
pub record IsWritten (negative : Bool) (front back text : List ℕ) : Type 0 where
  pub sign : List ℕ
  pub point : List ℕ
  pub is_sign : IsSign negative sign
  pub is_point : IsPoint point back
  pub front_digits : are_digits front ≡ true
  pub back_digits : are_digits back ≡ true
  pub some : (front ≡ []) × (back ≡ []) → ⊥
  pub text_is : text ≡ sign ++ (front ++ (point ++ back))

-- the text is a number of some parts
pub record IsNumber (text : List ℕ) : Type 0 where
  pub negative : Bool
  pub front : List ℕ
  pub back : List ℕ
  pub written : IsWritten negative front back text
