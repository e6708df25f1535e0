-- What a shelf in memory shows.
use Rattle.std.specs.Prelude.{ℕ, List, [], ◌∷◌, map, Option, Some, None, if◌then◌else◌, Vec, Bool}
use Rattle.std.specs.declared.alloc.Global.{Global}
use Rattle.std.specs.declared.string.String.{String}
use Rattle.std.specs.String.{string_bytes}
use Rattle.std.specs.Str.{bytes_eq}
use Rattle.mem_devices.specs.Plan.{fails_at, next_count, faults_after}

-- The name and the bytes of each file; the numbers of the calls that fail; the number of the next
-- call; the count of faults.
pub record MemShelfState : Type 0 where
  pub files : List (List ℕ × List ℕ)
  pub failing : List ℕ
  pub calls : ℕ
  pub faults : ℕ

-- the bytes under a name: those of the first file of that name
abbrev pub bytes_under : List (List ℕ × List ℕ) → List ℕ → Option (List ℕ)
bytes_under [] name = None
bytes_under (file ∷ files) name = if bytes_eq file.0 name then Some file.1 else bytes_under files name

-- the files that a program lists, as texts and bytes
abbrev pub files_of : List (String Global × Vec ℕ Global) → List (List ℕ × List ℕ)
files_of files = map (λ file. (string_bytes file.0, file.1.items)) files

-- whether the next call fails
abbrev pub fails_next : MemShelfState → Bool
fails_next shelf = fails_at shelf.failing shelf.calls

-- the shelf after one call of either kind
abbrev pub after_call : MemShelfState → MemShelfState
after_call shelf =
    record shelf { calls = next_count shelf.calls; faults = faults_after (fails_next shelf) shelf.faults }
