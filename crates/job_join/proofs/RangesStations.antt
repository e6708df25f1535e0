-- The stations and the products of a plan.
use Rattle.std.specs.List.{position_or_len}
use Rattle.std.proofs.Common.{◌≡◌, ℕ, ◌/◌, ◌%◌, ◌^◌, ◌<◌, ◌==◌, Bool, true, false, cond, not, nat_lt, List, [], ◌∷◌, length, unwrap_or, All, IfSome, Option, None, Some, option_map, bytes_eq, refl}
use Rattle.std.proofs.lemmas.Bool.{not-false, eqb-true, ltb-true}
use Rattle.std.proofs.lemmas.List.{length-map}
use Rattle.std.proofs.lemmas.List.Elements.{All-head, All-tail, All-map, All-weaker}
use Rattle.vdif_frame.specs.Shape.{IsShape, samples_per_frame}
use Rattle.named_list.specs.Named.{named}
use Rattle.job_plan.specs.Ranges.{IsRecorded, IsStation, IsProductPlan}
use Rattle.job_text.specs.declared.places.ChanPlace.{ChanPlace}
use Rattle.job_text.specs.Job.{JobFields, StationFields}
use Rattle.job_text.specs.Ranges.{shape_of, IsChanOf, IsStationOf}
use Rattle.scan_list.specs.declared.scan.Scan.{Scan}
use Rattle.job_join.specs.Standing.{rate_of}
use Rattle.job_join.specs.Differing.{frame_rate}
use Rattle.job_join.specs.Joined.{recorded_of, station_plan, number_of, product_plan, plan_by}
use Rattle.job_join.proofs.RangesLists.{position-None}
use Rattle.job_join.proofs.RangesRates.{divided, divided-some}

named-All : {A : Type 0} (P : A → Type 0) (xs : List (List ℕ × A)) (name : List ℕ) → All (λ x. P x.1) xs → IfSome (named xs name) P
named-All P [] name all = tt
named-All {A} P (x ∷ xs) name all = by (bytes_eq x.0 name) (named-All P xs name (All-tail (λ x. P x.1) x xs all))
  where
    by : (b : Bool) → IfSome (named xs name) P → IfSome (cond b (Some x.1) (named xs name)) P
    by true rest = All-head (λ x. P x.1) x xs all
    by false rest = rest

-- a place that a frame can hold
abbrev IsPlace : StationFields → ChanPlace → Type 0
IsPlace s c = (c.thread < 1024) × (c.index < 2 ^ s.chans_log2)

recorded-there : (frames : ℕ) (s : StationFields) (name : List ℕ) → IsStationOf s → IsRecorded (shape_of frames s) (recorded_of s name)
recorded-there frames s name is =
    by (named s.chans name) (named-All (IsPlace s) s.chans name (All-weaker (IsChanOf s) (λ c. IsPlace s c.1) (λ c its. its.1) s.chans is.chans))
  where
    by : (o : Option ChanPlace) → IfSome o (IsPlace s) → IsRecorded (shape_of frames s) (option_map (λ (c : ChanPlace). record { thread = c.thread; index = c.index }) o)
    by None there = tt
    by (Some c) there = there

-- frames of which some come in a second
shape-there : (frames : ℕ) (s : StationFields) → IsStationOf s → 0 < frames → IsShape (shape_of frames s)
shape-there frames s is some = record {
  bits = is.shape.bits;
  chans = is.shape.chans;
  units = is.shape.units;
  least = is.shape.least;
  most = is.shape.most;
  whole = is.shape.whole;
  frames = some;
}

pub station-there : (job : JobFields) (rate : ℕ) (channels : List (List ℕ)) (scans : List Scan) (s : StationFields) → IsStationOf s → 0 < rate
    → rate % samples_per_frame (shape_of 0 s) ≡ 0 → IsStation (plan_by job rate channels scans) (station_plan rate channels s)
station-there job rate channels scans s is some whole =
    let frames : ℕ = rate / samples_per_frame (shape_of 0 s) in
    record {
      key = is.key;
      shape = shape-there frames s is (divided-some rate (samples_per_frame (shape_of 0 s)) some whole);
      bits = is.bits;
      rate = divided rate (samples_per_frame (shape_of 0 s)) whole;
      chans = length-map channels (recorded_of s);
      recorded = All-map (IsRecorded (shape_of frames s)) (recorded_of s) channels (λ k d less. recorded-there frames s _ is);
      polys = is.polys;
      clocks = is.clocks;
      files = is.files;
    }

pub frames-whole : (job : JobFields) (scans : List Scan) → frame_rate job scans ≡ None → All (λ s. rate_of job scans % samples_per_frame (shape_of 0 s) ≡ 0) job.stations
unfolding frame_rate
frames-whole job scans none =
    All-weaker (λ s. not (rate_of job scans % samples_per_frame (shape_of 0 s) == 0) ≡ false) (λ s. rate_of job scans % samples_per_frame (shape_of 0 s) ≡ 0)
    (λ s is. eqb-true _ _ (not-false _ is)) job.stations (position-None _ job.stations none)

number_of-below : (channels : List (List ℕ)) (name : List ℕ) → 0 < length channels → number_of channels name < length channels
number_of-below channels name some = by (nat_lt place (length channels)) refl
  where
    place : ℕ
    place = position_or_len (λ other. bytes_eq other name) channels

    by : (b : Bool) → nat_lt place (length channels) ≡ b → unwrap_or (cond b (Some place) None) 0 < length channels
    by true less = ltb-true place (length channels) less
    by false less = some

pub product-there : (job : JobFields) (rate : ℕ) (channels : List (List ℕ)) (scans : List Scan) (p : List ℕ × List ℕ) → 0 < length channels
    → IsProductPlan (plan_by job rate channels scans) (product_plan channels p)
product-there job rate channels scans p some = (number_of-below channels p.0 some, number_of-below channels p.1 some)
