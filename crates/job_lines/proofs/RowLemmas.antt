-- The rows of lines, one behind the other.
use Rattle.std.proofs.Common.{◌≡◌, List, ◌∷◌, ◌++◌, filter_map, Option, Some, None, option_to_list, refl}
use Rattle.std.specs.List.{cons_option}

-- what the first of some things gives stands before what the others give
pub filter_map-cons : {A B : Type 0} (f : A → Option B) (x : A) (xs : List A) → filter_map f (x ∷ xs) ≡ option_to_list (f x) ++ filter_map f xs
filter_map-cons {A} {B} f x xs = by (f x)
  where
    by : (o : Option B) → cons_option o (filter_map f xs) ≡ option_to_list o ++ filter_map f xs
    by None = refl
    by (Some y) = refl
