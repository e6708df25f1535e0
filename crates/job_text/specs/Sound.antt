-- What is kept of what rows say.
use Rattle.std.specs.Prelude.{◌≡◌, ℕ, ◌%◌, ◌^◌, ◌≤◌, ◌<◌, List, IfSome}
use Rattle.std.specs.List.{All}
use Rattle.job_text.specs.declared.places.Band.{Band}
use Rattle.job_lines.specs.declared.word.Word.{Word}
use Rattle.job_lines.specs.declared.word.Word.TheVariants.{Product, Scan}
use Rattle.job_text.specs.Values.{field, scan_in}
use Rattle.job_text.specs.Said.{Said}
use Rattle.job_text.specs.Ranges.{IsName, IsSpan, AreDistinct}
use Rattle.named_list.specs.Named.{names}

-- the numbers are in their ranges, and so is what the scans and the bands say
pub record IsSaid (said : Said) : Type 0 where
  pub lags : IfSome said.lags (λ n. (2 ≤ n) × (n ≤ 1024) × (n % 2 ≡ 0))
  pub integration : IfSome said.integration (λ n. (1 ≤ n) × (n ≤ 2 ^ 36))
  pub epoch : IfSome said.epoch (λ n. (1 ≤ n) × (n ≤ 4194304))
  pub knot : IfSome said.knot (λ n. (1 ≤ n) × (n ≤ 2 ^ 24))
  pub rate : IfSome said.rate (λ n. (1 ≤ n) × (n < 2 ^ 32))
  pub products : All (λ (p : List ℕ × List ℕ). IsName p.0 × IsName p.1) said.products
  pub scans : All IsSpan said.scans
  pub bands : All (λ (b : List ℕ × Band). b.1.hertz < 2 ^ 40) said.bands
  pub scan_names : AreDistinct (names said.scans)
  pub band_names : AreDistinct (names said.bands)

-- what a row says that is not told by numbers alone: its product has two names, and its scan is one
abbrev pub IsSoundRow : Word → List (List ℕ) → Type 0
IsSoundRow Product fields = IsName (field fields 0) × IsName (field fields 1)
IsSoundRow Scan fields = IfSome (scan_in fields) IsSpan
IsSoundRow _ fields = Unit {0}
