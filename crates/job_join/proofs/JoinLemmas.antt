-- What is found of the scans as the program holds them is what is found of the schedule.
use Rattle.std.proofs.Common.{◌≡◌, ℕ, ◌+◌, Bool, true, false, not, cond, List, [], ◌∷◌, ◌++◌, map, filter, fold, max, flat_map, find, None, Some, Option, option_map, unwrap_or, ap, refl, sym, ◌∙◌, bytes_eq, is_some, ◌||◌, ◌&&◌, slice_get}
use Rattle.std.specs.List.{list_any, position, position_from}
use Rattle.std.specs.Option.{option_or}
use Rattle.std.proofs.lemmas.List.{map-id}
use Rattle.std.proofs.lemmas.List.Folds.{fold-map}
use Rattle.std.proofs.lemmas.Iterator.Adapters.{position_from-zero}
use Rattle.scan_list.specs.declared.scan.Pass.{Pass}
use Rattle.scan_list.specs.declared.scan.Scan.{Scan}
use Rattle.job_text.specs.Job.{JobFields, StationFields}
use Rattle.job_join.specs.declared.fault.JoinFault.{JoinFault}
use Rattle.job_join.specs.declared.places.Place.{Place}
use Rattle.job_join.specs.declared.stands.Here.{Here}
use Rattle.job_join.specs.Standing.{Stand, is_taken, taken, pass_with, stands_in, unknown_station, rate_of}
use Rattle.job_join.specs.Channels.{channels_of, chans_in}
use Rattle.job_join.specs.Joined.{first_there}
use Rattle.job_join.specs.Differing.{rate_differs, channel_differs, product_differs}
use Rattle.job_join.specs.Spans.{end_sample, samples_of}
use Rattle.job_join.specs.Places.{stand_of, stands_of, Visit, visit_in, visit_of, has_key, rate_among, has_other_rate, has_other_band, has_unlike_product}
use Rattle.job_join.proofs.Sets.{any-map}

module _ {X Y : Type 0} (p : Y → Bool) (f : X → Y) where
  position_from-map : (k : ℕ) (xs : List X) → position_from p k (map f xs) ≡ position_from (λ x. p (f x)) k xs
  position_from-map k [] = refl
  position_from-map k (x ∷ xs) = ap (λ o. cond (p (f x)) (Some k) o) (position_from-map (k + 1) xs)

  pub position-map : (xs : List X) → position p (map f xs) ≡ position (λ x. p (f x)) xs
  position-map xs = position_from-zero p (map f xs) ∙ position_from-map 0 xs ∙ sym (position_from-zero (λ x. p (f x)) xs)

module _ {X : Type 0} where
  any-filter : (t p : X → Bool) (xs : List X) → list_any p (filter t xs) ≡ list_any (λ x. t x && p x) xs
  any-filter t p [] = refl
  any-filter t p (x ∷ xs) = by (t x) (any-filter t p xs)
    where
      by : (b : Bool) → list_any p (filter t xs) ≡ list_any (λ x. t x && p x) xs → list_any p (cond b (x ∷ filter t xs) (filter t xs)) ≡ ((b && p x) || list_any (λ x. t x && p x) xs)
      by true rest = ap (λ r. p x || r) rest
      by false rest = rest

  found-any : (p : X → Bool) (xs : List X) → is_some (find p xs) ≡ list_any p xs
  found-any p [] = refl
  found-any p (x ∷ xs) = by (p x) (found-any p xs)
    where
      by : (b : Bool) → is_some (find p xs) ≡ list_any p xs → is_some (cond b (Some x) (find p xs)) ≡ (b || list_any p xs)
      by true rest = refl
      by false rest = rest

module _ (job : JobFields) (scans : List Scan) (places : List Place) (whole : map visit_of places ≡ map (visit_in job) scans) where
  pub position-visits : (test : Visit → Bool) → position (λ (p : Place). test (visit_of p)) places ≡ position (λ scan. test (visit_in job scan)) scans
  position-visits test = sym (position-map test visit_of places) ∙ ap (position test) whole ∙ position-map test (visit_in job) scans

  any-visits : (test : Visit → Bool) → list_any (λ (p : Place). test (visit_of p)) places ≡ list_any (λ scan. test (visit_in job scan)) scans
  any-visits test = sym (any-map test visit_of places) ∙ ap (list_any test) whole ∙ any-map test (visit_in job) scans

  pub unknown_station-places : position (λ (s : StationFields). not (list_any (λ (p : Place). has_key s.key (visit_of p)) places)) job.stations ≡ unknown_station job scans
  unfolding unknown_station taken
  unknown_station-places = ap (λ test. position test job.stations) (λ i s. not (one s.key i))
    where
      parts : (key : List ℕ) → ◌≡◌ {A = Scan → Bool} (λ scan. list_any (λ (p : Pass). bytes_eq p.key key) scan.passes) (λ scan. is_some (pass_with scan key))
      parts key = λ i scan. sym (found-any (λ (p : Pass). bytes_eq p.key key) scan.passes) i

      one : (key : List ℕ) → list_any (λ (p : Place). has_key key (visit_of p)) places ≡ list_any (λ scan. is_some (pass_with scan key)) (filter (is_taken job.takes) scans)
      one key =
          any-visits (has_key key)
          ∙ ap (λ (t : Scan → Bool). list_any (λ scan. is_taken job.takes scan && t scan) scans) (parts key)
          ∙ sym (any-filter (is_taken job.takes) (λ scan. is_some (pass_with scan key)) scans)

  pub rate_of-places : rate_among (map visit_of places) ≡ rate_of job scans
  unfolding rate_of taken
  rate_of-places = ap rate_among whole ∙ each scans
    where
      each : (scans : List Scan) → rate_among (map (visit_in job) scans) ≡ unwrap_or (option_map (λ (s : Stand). s.pass.rate) (slice_get (flat_map (stands_in job) (filter (is_taken job.takes) scans)) 0)) 0
      each [] = refl
      each (scan ∷ scans) = by (is_taken job.takes scan) (each scans)
        where
          stood : (ss more : List Stand) (rest : ℕ) → rest ≡ unwrap_or (option_map (λ (s : Stand). s.pass.rate) (slice_get more 0)) 0
              → unwrap_or (option_map (λ (s : Stand). s.pass.rate) (slice_get ss 0)) rest ≡ unwrap_or (option_map (λ (s : Stand). s.pass.rate) (slice_get (ss ++ more) 0)) 0
          stood [] more rest so = so
          stood (s ∷ ss) more rest so = refl

          by : (b : Bool) → rate_among (map (visit_in job) scans) ≡ unwrap_or (option_map (λ (s : Stand). s.pass.rate) (slice_get (flat_map (stands_in job) (filter (is_taken job.takes) scans)) 0)) 0
              → unwrap_or (cond b (option_map (λ (s : Stand). s.pass.rate) (slice_get (stands_in job scan) 0)) None) (rate_among (map (visit_in job) scans))
              ≡ unwrap_or (option_map (λ (s : Stand). s.pass.rate) (slice_get (flat_map (stands_in job) (cond b (scan ∷ filter (is_taken job.takes) scans) (filter (is_taken job.takes) scans))) 0)) 0
          by true rest = stood (stands_in job scan) (flat_map (stands_in job) (filter (is_taken job.takes) scans)) (rate_among (map (visit_in job) scans)) rest
          by false rest = rest

  pub rate_differs-places : (rate : ℕ) → rate ≡ rate_of job scans → position (λ (p : Place). has_other_rate rate (visit_of p)) places ≡ rate_differs job scans
  unfolding rate_differs
  rate_differs-places rate same = ap (λ r. position (λ (p : Place). has_other_rate r (visit_of p)) places) same ∙ position-visits (has_other_rate (rate_of job scans))

  pub channel_differs-places : (channels : List (List ℕ)) → channels ≡ channels_of job → position (λ (p : Place). has_other_band channels (visit_of p)) places ≡ channel_differs job scans
  unfolding channel_differs chans_in
  channel_differs-places channels same = ap (λ cs. position (λ (p : Place). has_other_band cs (visit_of p)) places) same ∙ position-visits (has_other_band (channels_of job))

  pub product_differs-places : position (λ (p : Place). has_unlike_product job.products (visit_of p)) places ≡ product_differs job scans
  unfolding product_differs chans_in
  product_differs-places = position-visits (has_unlike_product job.products)

-- as far as the stations of a scan go
pub samples_of-stands : (job : JobFields) (rate : ℕ) (scan : Scan) (hs : List Here) → stands_of hs ≡ stands_in job scan
    → fold (λ most (h : Here). max most (end_sample rate h.pass.now)) 0 hs ≡ samples_of job rate scan
unfolding samples_of
samples_of-stands job rate scan hs same =
    sym (fold-map (λ most (s : Stand). max most (end_sample rate s.pass)) stand_of 0 hs) ∙ ap (fold (λ most (s : Stand). max most (end_sample rate s.pass)) 0) same

pub map-map : {X Y Z : Type 0} (g : Y → Z) (f : X → Y) (xs : List X) → map g (map f xs) ≡ map (λ x. g (f x)) xs
map-map g f [] = refl
map-map g f (x ∷ xs) = ap (λ ys. g (f x) ∷ ys) (map-map g f xs)

-- the scans that are held are the schedule's
pub scans-held : (job : JobFields) (scans : List Scan) (places : List Place) → map visit_of places ≡ map (visit_in job) scans → map (λ (p : Place). p.scan.now) places ≡ scans
scans-held job scans places whole =
    let scan_of : Visit → Scan = λ v. v.scan in
    sym (map-map scan_of visit_of places) ∙ ap (map scan_of) whole ∙ map-map scan_of (visit_in job) scans ∙ map-id scans

-- the first of six causes
pub first_there-or : (a b c d e f : Option JoinFault) → option_or (option_or (option_or (option_or (option_or a b) c) d) e) f ≡ first_there (a ∷ b ∷ c ∷ d ∷ e ∷ f ∷ [])
first_there-or (Some x) b c d e f = refl
first_there-or None (Some x) c d e f = refl
first_there-or None None (Some x) d e f = refl
first_there-or None None None (Some x) e f = refl
first_there-or None None None None (Some x) f = refl
first_there-or None None None None None (Some x) = refl
first_there-or None None None None None None = refl
