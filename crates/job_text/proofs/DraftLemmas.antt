-- Rows that a draft takes.
use Rattle.std.proofs.Common.{◌≡◌, ℕ, ◌++◌, Bool, true, false, not, ◌&&◌, List, [], ◌∷◌, Option, Some, None, Result, Ok, Err, is_some, option_to_list, refl, sym, ap, ◌∙◌}
use Rattle.job_lines.specs.declared.word.Word.TheVariants.{Lags, Integration, Epoch, Knot, Auto, Station, Product, Take, Rate, Scan, Band}
use Rattle.named_list.specs.Named.{named, names, put}
use Rattle.job_text.specs.declared.part.Part.{Part}
use Rattle.job_text.specs.declared.part.Part.TheVariants.{File as FilePart, Chan as ChanPart, Clock as ClockPart, Poly as PolyPart}
use Rattle.job_text.specs.declared.fault.JobKind.{JobKind}
use Rattle.job_text.specs.declared.fault.JobKind.TheVariants.{Unknown, Double}
use Rattle.job_text.specs.declared.places.ScanSpan.{ScanSpan}
use Rattle.job_text.specs.declared.places.Band.{Band as BandPlace}
use Rattle.job_text.specs.Job.{StationFields}
use Rattle.job_text.specs.Values.{field, lags_in, integration_in, epoch_in, knot_in, rate_in, scan_in, band_in, station_in}
use Rattle.job_text.specs.Said.{Said}
use Rattle.job_text.specs.Faults.{double_or_range, row_fault, station_fault, station_with, has_channel, is_among, is_pair_among, part_fault}
use Rattle.job_text.specs.Growing.{Takes, grown, under, changed, word_for, with_part}
use Rattle.job_text.proofs.NameLemmas.{put-new, named-none, among-names}

-- what is taken of a part is taken of the whole
through : {S T : Type 0} (whole : T → S) (fault : Option JobKind) (added : T) (result : Result (Unit {0}) JobKind) (new : T) → Takes fault added result new → Takes fault (whole added) result (whole new)
through whole fault added (Ok x) new h = (h.0, ap whole h.1)
through whole fault added (Err kind) new h = h

-- each row, where what the draft keeps of it was taken
pub record TakesRows (said : Said) (fields : List (List ℕ)) (result : Result (Unit {0}) JobKind) : Type 0 where
  pub lags : (new : Option ℕ) → Takes (double_or_range (is_some said.lags) (lags_in fields)) (lags_in fields) result new → Takes (row_fault said Lags fields) (grown said Lags fields) result (record said { lags = new })
  pub integration : (new : Option ℕ) → Takes (double_or_range (is_some said.integration) (integration_in fields)) (integration_in fields) result new → Takes (row_fault said Integration fields) (grown said Integration fields) result (record said { integration = new })
  pub epoch : (new : Option ℕ) → Takes (double_or_range (is_some said.epoch) (epoch_in fields)) (epoch_in fields) result new → Takes (row_fault said Epoch fields) (grown said Epoch fields) result (record said { epoch = new })
  pub knot : (new : Option ℕ) → Takes (double_or_range (is_some said.knot) (knot_in fields)) (knot_in fields) result new → Takes (row_fault said Knot fields) (grown said Knot fields) result (record said { knot = new })
  pub rate : (new : Option ℕ) → Takes (double_or_range (is_some said.rate) (rate_in fields)) (rate_in fields) result new → Takes (row_fault said Rate fields) (grown said Rate fields) result (record said { rate = new })
  pub scans : (new : List (List ℕ × ScanSpan)) → Takes (double_or_range (is_some (named said.scans (field fields 0))) (scan_in fields)) (said.scans ++ option_to_list (scan_in fields)) result new → Takes (row_fault said Scan fields) (grown said Scan fields) result (record said { scans = new })
  pub bands : (new : List (List ℕ × BandPlace)) → Takes (double_or_range (is_some (named said.bands (field fields 0))) (band_in fields)) (said.bands ++ option_to_list (band_in fields)) result new → Takes (row_fault said Band fields) (grown said Band fields) result (record said { bands = new })
  pub stations : (new : List StationFields) → Takes (double_or_range (is_some (station_with said.stations (field fields 0))) (station_in fields)) (said.stations ++ option_to_list (station_in fields)) result new → Takes (row_fault said Station fields) (grown said Station fields) result (record said { stations = new })

pub taken-rows : (said : Said) (fields : List (List ℕ)) (result : Result (Unit {0}) JobKind) → TakesRows said fields result
unfolding row_fault grown
taken-rows said fields result = record {
  lags = λ new h. through (λ x. record said { lags = x }) (double_or_range (is_some said.lags) (lags_in fields)) (lags_in fields) result new h;
  integration = λ new h. through (λ x. record said { integration = x }) (double_or_range (is_some said.integration) (integration_in fields)) (integration_in fields) result new h;
  epoch = λ new h. through (λ x. record said { epoch = x }) (double_or_range (is_some said.epoch) (epoch_in fields)) (epoch_in fields) result new h;
  knot = λ new h. through (λ x. record said { knot = x }) (double_or_range (is_some said.knot) (knot_in fields)) (knot_in fields) result new h;
  rate = λ new h. through (λ x. record said { rate = x }) (double_or_range (is_some said.rate) (rate_in fields)) (rate_in fields) result new h;
  scans = λ new h. through (λ x. record said { scans = x }) (double_or_range (is_some (named said.scans (field fields 0))) (scan_in fields)) (said.scans ++ option_to_list (scan_in fields)) result new h;
  bands = λ new h. through (λ x. record said { bands = x }) (double_or_range (is_some (named said.bands (field fields 0))) (band_in fields)) (said.bands ++ option_to_list (band_in fields)) result new h;
  stations = λ new h. through (λ x. record said { stations = x }) (double_or_range (is_some (station_with said.stations (field fields 0))) (station_in fields)) (said.stations ++ option_to_list (station_in fields)) result new h;
}

module _ (said : Said) (fields : List (List ℕ)) (result : Result (Unit {0}) JobKind) where
  pub taken-part : (part : Part) (new : List StationFields) → Takes (station_fault said.stations fields (part_fault part fields)) (changed said.stations (field fields 0) (with_part part fields)) result new → Takes (row_fault said (word_for part) fields) (grown said (word_for part) fields) result (record said { stations = new })
  unfolding row_fault grown
  taken-part part new h = by part (through (λ x. record said { stations = x }) (station_fault said.stations fields (part_fault part fields)) (changed said.stations (field fields 0) (with_part part fields)) result new h)
    where
      by : (part : Part) → Takes (station_fault said.stations fields (part_fault part fields)) (record said { stations = changed said.stations (field fields 0) (with_part part fields) }) result (record said { stations = new })
          → Takes (row_fault said (word_for part) fields) (grown said (word_for part) fields) result (record said { stations = new })
      by FilePart whole = whole
      by ChanPart whole = whole
      by ClockPart whole = whole
      by PolyPart whole = whole

-- a thing put under a new name
pub put-under : {A : Type 0} (things : List (List ℕ × A)) (name : List ℕ) (stated : Option A) (thing : A) (new : List (List ℕ × A)) → stated ≡ Some thing → is_some (named things name) ≡ false → new ≡ put things name thing
    → (double_or_range (is_some (named things name)) (under name stated) ≡ None) × (new ≡ things ++ option_to_list (under name stated))
put-under things name stated thing new is free is_put = rw (is, free) (refl, is_put ∙ put-new things name thing (named-none things name free))

module _ (said : Said) where
  pub row_fault-auto : said.auto ≡ true → row_fault said Auto [] ≡ Some Double
  unfolding row_fault
  row_fault-auto again = rw again refl

  pub grown-Auto : said.auto ≡ false → Takes (row_fault said Auto []) (grown said Auto []) (Ok tt) (record said { auto = true })
  unfolding row_fault grown
  grown-Auto first = rw first (refl, refl)

module _ (said : Said) (fields : List (List ℕ)) where
  pub row_fault-unknown : (has_channel said.stations (field fields 0) && has_channel said.stations (field fields 1)) ≡ false → row_fault said Product fields ≡ Some Unknown
  unfolding row_fault
  row_fault-unknown unknown = rw unknown refl

  module _ (known : (has_channel said.stations (field fields 0) && has_channel said.stations (field fields 1)) ≡ true) where
    pub row_fault-pair : (added : Bool) → added ≡ not (is_pair_among (field fields 0) (field fields 1) said.products) → added ≡ false → row_fault said Product fields ≡ Some Double
    unfolding row_fault
    row_fault-pair added answer none = rw (known, again (is_pair_among (field fields 0) (field fields 1) said.products) (sym answer ∙ none)) refl
      where
        again : (b : Bool) → not b ≡ false → b ≡ true
        again true h = refl
        again false h = absurd cc

    pub grown-Product : (added : Bool) → added ≡ not (is_pair_among (field fields 0) (field fields 1) said.products) → added ≡ true
        → (new : List (List ℕ × List ℕ)) → new ≡ said.products ++ (field fields 0, field fields 1) ∷ [] → (row_fault said Product fields ≡ None) × (record said { products = new } ≡ grown said Product fields)
    unfolding row_fault grown
    grown-Product added answer some new is = (rw (known, first (is_pair_among (field fields 0) (field fields 1) said.products) (sym answer ∙ some)) refl, ap (λ x. record said { products = x }) is)
      where
        first : (b : Bool) → not b ≡ true → b ≡ false
        first true h = absurd cc
        first false h = refl

-- the names that are taken
module _ {T : Type 0} (said : Said) (fields : List (List ℕ)) (takes : List (List ℕ × T)) (is : names takes ≡ said.takes) where
  among : (again : Bool) → is_some (named takes (field fields 0)) ≡ again → is_among (field fields 0) said.takes ≡ again
  among again found = ap (is_among (field fields 0)) (sym is) ∙ sym (among-names takes (field fields 0)) ∙ found

  pub row_fault-take : is_some (named takes (field fields 0)) ≡ true → row_fault said Take fields ≡ Some Double
  unfolding row_fault
  row_fault-take found = rw (among true found) refl

  pub grown-Take : is_some (named takes (field fields 0)) ≡ false → (new : List (List ℕ)) → new ≡ said.takes ++ field fields 0 ∷ [] → Takes (row_fault said Take fields) (grown said Take fields) (Ok tt) (record said { takes = new })
  unfolding row_fault grown
  grown-Take found new is_new = (rw (among false found) refl, ap (λ x. record said { takes = x }) is_new)
