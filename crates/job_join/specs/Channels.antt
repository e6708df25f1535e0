-- The channels of a job, and what the stations of a scan have of them.
use Rattle.std.specs.Prelude.{ℕ, ◌==◌, ◌&&◌, not, Bool, false, if◌then◌else◌, List, [], ◌∷◌, filter_map, find, flat_map, bytes_eq, Option, None, Some}
use Rattle.std.specs.List.{list_any}
use Rattle.scan_list.specs.declared.scan.Chan.{Chan}
use Rattle.scan_list.specs.declared.scan.Pass.{Pass}
use Rattle.scan_list.specs.declared.scan.Scan.{Scan}
use Rattle.job_text.specs.Job.{JobFields}
use Rattle.job_join.specs.Standing.{Stand, is_among, stands_in}

-- the names that differ from those before them and from one another, where each stands first
abbrev pub first_uses : List (List ℕ) → List (List ℕ) → List (List ℕ)
first_uses before [] = []
first_uses before (name ∷ names) =
    if is_among name before then first_uses before names else name ∷ first_uses (name ∷ before) names

-- the two names of each product
abbrev pub product_names : JobFields → List (List ℕ)
product_names job = flat_map (λ (p : List ℕ × List ℕ). p.0 ∷ p.1 ∷ []) job.products

-- the channels of the products, in the order of their first use
unfoldable pub channels_of : JobFields → List (List ℕ)
channels_of job = first_uses [] (product_names job)

-- the channel of a name in a station's part of a scan
abbrev pub chan_with : Pass → List ℕ → Option Chan
chan_with pass name = find (λ (c : Chan). bytes_eq c.id name) pass.chans

-- what the stations of a scan that have a channel of this name have under it, in the job's order
unfoldable pub chans_in : JobFields → Scan → List ℕ → List Chan
chans_in job scan name = filter_map (λ (s : Stand). chan_with s.pass name) (stands_in job scan)

-- two truths that are one
abbrev pub same_side : Bool → Bool → Bool
same_side a b = if a then b else not b

-- two channels of one frequency, sideband and bandwidth
abbrev pub is_same_band : Chan → Chan → Bool
is_same_band c d = (c.hertz == d.hertz) && (same_side c.upper d.upper && (c.band_hertz == d.band_hertz))

-- one of some channels differs from the first
abbrev pub differ : List Chan → Bool
differ [] = false
differ (c ∷ chans) = list_any (λ d. not (is_same_band c d)) chans

-- both are there, and differ
abbrev pub are_different : Option Chan → Option Chan → Bool
are_different (Some c) (Some d) = not (is_same_band c d)
are_different (Some c) None = false
are_different None d = false
