-- The certificate that is written.
use Rattle.std.specs.Prelude.{◌≡◌, ℕ, ℤ, List, ◌∷◌, map, flat_map, Option, Result, nat_lt, if◌then◌else◌}
use Rattle.std.specs.List.{All, range_with_len}
use Rattle.corr_model.specs.Lags.{lag_of}
use Rattle.vis_records.specs.Content.{Content}
use Rattle.sink_text.specs.Appends.{Appends}
use Rattle.sink_text.specs.Written.{StretchState, Puts}
use Rattle.fringe_search.specs.declared.grid.Grid.{Grid}
use Rattle.fringe_search.specs.declared.grid.Peak.{Peak}
use Rattle.fringe_search.specs.declared.claim.Mark.{Mark}
use Rattle.fringe_search.specs.declared.claim.Mark.TheVariants.{Bound, Grid as Gridded}
use Rattle.fringe_search.specs.declared.peak.Point.{Point}
use Rattle.fringe_search.specs.declared.places.SeriesAt.{SeriesAt}
use Rattle.fringe_search.specs.Layout.{Series, series_of, series_in}
use Rattle.fringe_search.specs.Sums.{power_of, bound_at}
use Rattle.fringe_search.specs.Peaks.{IsPeak}
use Rattle.fringe_search.specs.Certificates.{Line, GridLine, PeakLine, LagLine, lines_text, IsRight}

-- the bound, exactly where that is less than a power
abbrev pub due_mark : Series → ℕ → ℕ → Mark
due_mark s top lag = if nat_lt (bound_at s lag) top then Bound else Gridded

-- the line of a lag beside a peak of this power
abbrev pub lag_line : Series → ℕ → ℕ → Line
lag_line s top lag = LagLine (lag_of s.lags lag) (due_mark s top lag)

abbrev pub lag_lines : Series → ℕ → List Line
lag_lines s top = map (lag_line s top) (range_with_len 0 s.lags)

-- the lines of a scan, a product and a baseline whose peak this is
abbrev pub series_lines : Series → SeriesAt → Peak → List Line
series_lines s at p = PeakLine at p ∷ lag_lines s (power_of p.re p.im)

-- a scan, a product and a baseline, and the peak that was found
pub record Found : Type 0 where
  pub at : SeriesAt
  pub peak : Peak

abbrev pub found_lines : Content → List Found → List Line
found_lines content found = flat_map (λ (f : Found). series_lines (series_of content f.at) f.at f.peak) found

-- The certificate of a grid: of each scan, product and baseline, in their order, the peak.
pub record IsCertificate (content : Content) (g : Grid) (lines : List Line) : Type 0 where
  pub found : List Found
  pub all : map (λ (f : Found). f.at) found ≡ series_in content.head
  pub peaks : All (λ (f : Found). IsPeak (series_of content f.at) g f.peak) found
  pub is : lines ≡ GridLine g ∷ found_lines content found

-- a point at a lag as a peak's line shows it
abbrev pub shown : ℤ → Point → Peak
shown lag p = record { lag = lag; rate = p.rate; re = p.sum.re; im = p.sum.im }

-- the lines of a scan, a product and a baseline are put
pub record PutsSeries (content : Content) (g : Grid) (at : SeriesAt) (old new : StretchState) (told_old told_new : Option (List ℕ))
    (faults_old faults_new : ℕ) : Type 0 where
  pub peak : Peak
  pub is : IsPeak (series_of content at) g peak
  pub puts : Puts (lines_text (series_lines (series_of content at) at peak)) old new told_old told_new faults_old faults_new

-- the lines of the certificate are put
pub record PutsCertificate (content : Content) (g : Grid) (old new : StretchState) (told_old told_new : Option (List ℕ))
    (faults_old faults_new : ℕ) : Type 0 where
  pub lines : List Line
  pub is : IsCertificate content g lines
  pub puts : Puts (lines_text lines) old new told_old told_new faults_old faults_new

-- The certificate, which is a right text, is appended, or with a fault a first part of it.
pub record AppendsCertificate {T E : Type 0} (content : Content) (g : Grid) (old new : Option (List ℕ)) (before now : ℕ)
    (result : Result T E) : Type 0 where
  pub lines : List Line
  pub is : IsCertificate content g lines
  pub right : IsRight content (lines_text lines)
  pub appends : Appends old new (lines_text lines) before now result
