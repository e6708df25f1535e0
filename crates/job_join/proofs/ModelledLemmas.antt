-- The first station that lacks what is needed, of the scans as the program holds them and of the schedule.
use Rattle.std.specs.Prelude.{flat_map}
use Rattle.std.proofs.Common.{◌≡◌, ℕ, ◌+◌, ◌<◌, max, fold, Bool, true, false, not, cond, List, [], ◌∷◌, ◌++◌, map, filter, find, length, get_or, drop, None, Some, Option, option_map, All, ap, refl, sym, ◌∙◌}
use Rattle.std.specs.Option.{option_or}
use Rattle.std.proofs.lemmas.List.{at_drop_more}
use Rattle.std.proofs.lemmas.List.Elements.{All-weaker}
use Rattle.std.proofs.lemmas.List.Folds.{find-append, fold-map}
use Rattle.num_time.specs.Times.{IsSecond}
use Rattle.scan_list.specs.declared.scan.Scan.{Scan}
use Rattle.scan_list.specs.Sound.{IsScan, AreScans}
use Rattle.job_text.specs.Job.{JobFields}
use Rattle.job_join.specs.declared.places.Place.{Place}
use Rattle.job_join.specs.declared.joining.Joining.{Joining}
use Rattle.job_join.specs.declared.reach.Need.{Need}
use Rattle.job_join.specs.declared.reach.Need.TheVariants.{Delay, Clock}
use Rattle.job_join.specs.Standing.{Stand, is_taken, taken, stands_in, rate_of}
use Rattle.job_join.specs.declared.stands.Here.{Here}
use Rattle.job_join.specs.Spans.{end_sample, samples_of}
use Rattle.job_join.specs.Modelled.{model_in, no_model, no_clock, first_failing}
use Rattle.job_join.specs.Joining.{scans_of}
use Rattle.job_join.specs.Needs.{are_met, lacking_of, lacking_among, lacking, samples_among}
use Rattle.job_join.specs.Places.{stand_of, stands_of, visit_in, visit_of}
use Rattle.job_join.proofs.RangesLists.{All-from_map}

option_map-option_or : {X Y : Type 0} (f : X → Y) (a b : Option X) → option_map f (option_or a b) ≡ option_or (option_map f a) (option_map f b)
option_map-option_or f None b = refl
option_map-option_or f (Some x) b = refl

find-map : {X Y : Type 0} (p : Y → Bool) (f : X → Y) (xs : List X) → find p (map f xs) ≡ option_map f (find (λ x. p (f x)) xs)
find-map p f [] = refl
find-map p f (x ∷ xs) = by (p (f x)) (find-map p f xs)
  where
    by : (b : Bool) → find p (map f xs) ≡ option_map f (find (λ x. p (f x)) xs)
        → cond b (Some (f x)) (find p (map f xs)) ≡ option_map f (cond b (Some x) (find (λ x. p (f x)) xs))
    by true rest = refl
    by false rest = rest

option_map-option_map : {X Y Z : Type 0} (g : Y → Z) (f : X → Y) (a : Option X) → option_map g (option_map f a) ≡ option_map (λ x. g (f x)) a
option_map-option_map g f None = refl
option_map-option_map g f (Some x) = refl

abbrev number : Scan × Stand → ℕ
number x = x.1.number

module _ (need : Need) (job : JobFields) (rate : ℕ) where
  fails : Scan × Stand → Bool
  fails x = not (are_met need (model_in job rate x.0 x.1.station) (samples_of job rate x.0))

  stays : List Scan → List (Scan × Stand)
  stays scans = flat_map (λ scan. map (λ s. (scan, s)) (stands_in job scan)) scans

  -- the first that fails
  found : List (Scan × Stand) → Option ℕ
  found xs = option_map number (find fails xs)

  found-append : (xs ys : List (Scan × Stand)) → found (xs ++ ys) ≡ option_or (found xs) (found ys)
  unfolding found
  found-append xs ys = ap (option_map number) (find-append fails xs ys) ∙ option_map-option_or number (find fails xs) (find fails ys)

  -- of the stations of one scan
  found-scan : (scan : Scan) → lacking_of need job rate scan (samples_among rate (stands_in job scan)) (stands_in job scan) ≡ found (map (λ s. (scan, s)) (stands_in job scan))
  unfolding samples_of found fails
  found-scan scan =
      let with_scan : Stand → Scan × Stand = λ s. (scan, s) in
      sym (ap (option_map number) (find-map fails with_scan (stands_in job scan)) ∙ option_map-option_map number with_scan (find (λ s. fails (scan, s)) (stands_in job scan)))

  lacking_among-visits : (scans : List Scan) → lacking_among need job rate (map (visit_in job) scans) ≡ found (stays (filter (is_taken job.takes) scans))
  unfolding stays found
  lacking_among-visits [] = refl
  lacking_among-visits (scan ∷ scans) = by (is_taken job.takes scan) (lacking_among-visits scans)
    where
      by : (b : Bool) → lacking_among need job rate (map (visit_in job) scans) ≡ found (stays (filter (is_taken job.takes) scans))
          → option_or (cond b (lacking_of need job rate scan (samples_among rate (stands_in job scan)) (stands_in job scan)) None) (lacking_among need job rate (map (visit_in job) scans))
          ≡ found (stays (cond b (scan ∷ filter (is_taken job.takes) scans) (filter (is_taken job.takes) scans)))
      by true rest =
          ap (λ o. option_or o (lacking_among need job rate (map (visit_in job) scans))) (found-scan scan)
          ∙ ap (option_or (found (map (λ s. (scan, s)) (stands_in job scan)))) rest
          ∙ sym (found-append (map (λ s. (scan, s)) (stands_in job scan)) (stays (filter (is_taken job.takes) scans)))
      by false rest = rest

-- the stations of a scan that is held go as far as those of the schedule
pub samples_among-stands : (rate : ℕ) (hs : List Here) → fold (λ most (h : Here). max most (end_sample rate h.pass.now)) 0 hs ≡ samples_among rate (stands_of hs)
samples_among-stands rate hs = sym (fold-map (λ most (s : Stand). max most (end_sample rate s.pass)) stand_of 0 hs)

-- the first of the stations from one on that lacks what is needed is that one
pub lacking_of-found : (need : Need) (job : JobFields) (rate : ℕ) (scan : Scan) (samples : ℕ) (hs : List Here) (i : ℕ) (h : Here) → i < length hs → h ≡ get_or hs i h
    → not (are_met need (model_in job rate scan h.station.now) samples) ≡ true
    → Some h.number ≡ lacking_of need job rate scan samples (stands_of (drop i hs))
lacking_of-found need job rate scan samples hs i h less is lacks =
    let lacking : List Here → Option ℕ = λ xs. lacking_of need job rate scan samples (stands_of xs) in
    ap (λ b. option_map (λ (s : Stand). s.number) (cond b (Some (stand_of h)) (find (λ (s : Stand). not (are_met need (model_in job rate scan s.station) samples)) (stands_of (drop (i + 1) hs))))) (sym lacks)
    ∙ ap (λ (x : Here). lacking (x ∷ drop (i + 1) hs)) is
    ∙ sym (at_drop_more lacking hs i h less)

first_failing-lacking : (need : Need) (job : JobFields) (scans : List Scan) → first_failing (are_met need) job scans ≡ lacking need job scans
unfolding no_model no_clock
first_failing-lacking Delay job scans = refl
first_failing-lacking Clock job scans = refl

-- what is found of the scans that are held is what is found of the schedule
pub lacking_among-lacking : (need : Need) (job : JobFields) (rate : ℕ) (scans : List Scan) (places : List Place) → map visit_of places ≡ map (visit_in job) scans → rate ≡ rate_of job scans
    → lacking_among need job rate (map visit_of places) ≡ lacking need job scans
unfolding taken fails stays found
lacking_among-lacking need job rate scans places whole same =
    ap (lacking_among need job rate) whole
    ∙ ap (λ r. lacking_among need job r (map (visit_in job) scans)) same
    ∙ lacking_among-visits need job (rate_of job scans) scans
    ∙ first_failing-lacking need job scans

-- the scans that are held begin in seconds of the calendar
pub seconds-held : (j : Joining) → AreScans (scans_of j) → All (λ (p : Place). IsSecond p.scan.now.second) j.places.items
seconds-held j scans =
    All-from_map (λ (scan : Scan). IsSecond scan.second) (λ (p : Place). p.scan.now) j.places.items
    (All-weaker IsScan (λ (scan : Scan). IsSecond scan.second) (λ scan is. is.second) (scans_of j) scans.each)
