-- What a device tells of its content: the content, or nothing.
use Rattle.std.specs.Prelude.{◌≡◌, ℕ, ◌≤◌, List, ◌++◌, length, take, Option, Some, None}

-- what was appended, with these bytes behind it
abbrev pub more : Option (List ℕ) → List ℕ → Option (List ℕ)
more None bytes = None
more (Some told) bytes = Some (told ++ bytes)

-- a fact about the content, where it is told
abbrev pub WhereTold : {A : Type 0} → Option A → (A → Type 0) → Type 0
WhereTold None P = Unit {0}
WhereTold (Some a) P = P a

-- Some first part of these bytes was appended, perhaps none or all of them.
pub record PrefixMore (old : Option (List ℕ)) (bytes : List ℕ) (new : Option (List ℕ)) : Type 0 where
  pub count : ℕ
  pub within : count ≤ length bytes
  pub appended : new ≡ more old (take count bytes)
