-- What stands under a name, and the file that is opened there.
use Rattle.std.specs.Prelude.{◌≡◌, ℕ, List, length, Bool, Option, Some, None}

-- The file that an opening gives has the bytes that stand under its name, and fails as the others do.
-- Where no regular file stands, nothing is said.
abbrev pub Opens : {F : Type 0} → (F → Option (List ℕ)) → (F → Bool) → Bool → Option (List ℕ) → Option F → Type 0
Opens told never_fails steady (Some bytes) (Some file) = (told file ≡ Some bytes) × (never_fails file ≡ steady)
Opens told never_fails steady (Some bytes) None = ⊥
Opens told never_fails steady None opened = Unit {0}

-- An open file has these bytes, and this is their number.
pub record IsMeasured {F : Type 0} (told : F → Option (List ℕ)) (never_fails : F → Bool) (steady : Bool) (bytes : List ℕ) (file : F) (size : ℕ) : Type 0 where
  pub content : told file ≡ Some bytes
  pub measured : size ≡ length bytes
  pub as_others : never_fails file ≡ steady

-- What a shelf found under a name is the file that stands there, with its size, or nothing where none does.
abbrev pub IsFound : {F : Type 0} → (F → Option (List ℕ)) → (F → Bool) → Bool → Option (List ℕ) → Option (F × ℕ) → Type 0
IsFound told never_fails steady (Some bytes) (Some found) = IsMeasured told never_fails steady bytes found.0 found.1
IsFound told never_fails steady (Some bytes) None = ⊥
IsFound told never_fails steady None (Some found) = ⊥
IsFound told never_fails steady None None = Unit {0}
