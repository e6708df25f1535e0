-- Whether a scan is taken.
use Rattle.std.proofs.Common.{◌≡◌, ℕ, ◌<◌, List, [], ◌∷◌, length, is_some, arith}
use Rattle.named_list.specs.Named.{named, names}
use Rattle.scan_list.specs.declared.scan.Scan.{Scan}
use Rattle.job_join.specs.Standing.{is_taken}
use Rattle.job_join.proofs.Sets.{any-names}

-- where some scan is named, those are that are named
pub is_taken-some : {A : Type 0} (xs : List (List ℕ × A)) (scan : Scan) → 0 < length xs → is_taken (names xs) scan ≡ is_some (named xs scan.name)
is_taken-some [] scan some = absurd (omega arith)
is_taken-some (x ∷ xs) scan some = any-names (x ∷ xs) scan.name
