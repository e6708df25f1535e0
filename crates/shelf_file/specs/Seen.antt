-- What a file of a shelf is, as a disk.
use Rattle.std.specs.Prelude.{◌≡◌, ℕ, ◌^◌, nat_lt, ◌==◌, ◌&&◌, if◌then◌else◌, List, length, Option, None, Some}
use Rattle.shelf_file.specs.declared.file.ShelfFile.{ShelfFile}

-- the bytes of a file of this length, which is below 2^63, where they are told
abbrev pub of_length : ℕ → Option (List ℕ) → Option (List ℕ)
of_length size None = None
of_length size (Some bytes) = if (length bytes == size) && nat_lt (length bytes) (2 ^ 63) then Some bytes else None

-- those of the file of a shelf with this name
abbrev pub seen_under : Option (List ℕ → Option (List ℕ)) → List ℕ → ℕ → Option (List ℕ)
seen_under None name size = None
seen_under (Some files) name size = of_length size (files name)

-- those of this file, by what its shelf tells
abbrev pub seen_of : {F : Type 0} → (F → Option (List ℕ → Option (List ℕ))) → ShelfFile F → Option (List ℕ)
seen_of told file = seen_under (told file.shelf.now) file.name.now file.size

-- It is the same file of the same shelf, which tells the same, and no call that would change it lies between.
pub record Stays {F : Type 0} (told : F → Option (List ℕ → Option (List ℕ))) (old new : ShelfFile F) : Type 0 where
  pub shelf : new.shelf.ghost_name ≡ old.shelf.ghost_name
  pub content : told new.shelf.now ≡ told old.shelf.now
  pub name : new.name.now ≡ old.name.now
  pub size : new.size ≡ old.size
  pub changes : new.changes ≡ old.changes
