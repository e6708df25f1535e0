-- The schedule of a job keeps what each schedule keeps.
use Rattle.std.proofs.Common.{◌≡◌, ℕ, ◌+◌, ◌<◌, ◌≤◌, ◌^◌, List, [], ◌∷◌, ◌++◌, length, get_or, take, map, slice_get, Option, Some, None, refl, sym, ap, ◌∙◌, arith}
use Rattle.std.specs.Prelude.{IfSome, IsSome, unwrap_or}
use Rattle.std.specs.List.{All}
use Rattle.std.proofs.lemmas.Int.{ints}
use Rattle.std.proofs.lemmas.List.{map_more}
use Rattle.std.proofs.lemmas.Option.{get_or_from_slice_get}
use Rattle.std.proofs.lemmas.List.Elements.{All-nil, All-cons, All-head, All-tail}
use Rattle.scan_list.specs.declared.scan.Chan.{Chan as ScanChan}
use Rattle.scan_list.specs.declared.scan.Pass.{Pass}
use Rattle.scan_list.specs.declared.scan.Scan.{Scan as WholeScan}
use Rattle.scan_list.specs.Sound.{IsChan, IsPass, IsScan, AreScans}
use Rattle.job_text.specs.declared.places.ScanSpan.{ScanSpan}
use Rattle.job_text.specs.declared.places.Band.{Band}
use Rattle.job_text.specs.Job.{JobFields, StationFields}
use Rattle.job_text.specs.Ranges.{IsJob, IsSpan, AreDistinct}
use Rattle.job_text.specs.Inline.{chan_of, pass_of, scan_of, scans_of}

All-map : {A B : Type 0} (P : A → Type 0) (Q : B → Type 0) (f : A → B) (xs : List A) → ((x : A) → P x → Q (f x)) → All P xs → All Q (map f xs)
All-map P Q f [] h each = All-nil Q
All-map P Q f (x ∷ xs) h each = All-cons Q (f x) (map f xs) (h x (All-head P x xs each)) (All-map P Q f xs h (All-tail P x xs each))

-- a list read so far as it is mapped, with one more
pub map-more : {A B : Type 0} (f : A → B) (xs : List A) (i : ℕ) (x : A) (made more : List B) (y : B) → i < length xs → slice_get xs i ≡ Some x
    → made ≡ map f (take i xs) → y ≡ f x → more ≡ made ++ y ∷ [] → more ≡ map f (take (i + 1) xs)
map-more f xs i x made more y less is so_far same pushed =
    let here : get_or xs i x ≡ x = get_or_from_slice_get xs i x x is in
    pushed ∙ (λ j. so_far j ++ same j ∷ []) ∙ ap (λ z. map f (take i xs) ++ f z ∷ []) (sym here) ∙ sym (map_more f xs i x less)

map-both : {A B C : Type 0} (g : B → C) (f : A → B) (h : A → C) (xs : List A) → ((x : A) → g (f x) ≡ h x) → map g (map f xs) ≡ map h xs
map-both g f h [] same = refl
map-both g f h (x ∷ xs) same = λ i. same x i ∷ map-both g f h xs same i

rate-some : (rate : Option ℕ) → IsSome rate → IfSome rate (λ r. (1 ≤ r) × (r < 2 ^ 32)) → 0 < unwrap_or rate 0
rate-some None some range = absurd cc
rate-some (Some r) some range = omega (arith, range.0)

module _ {job : JobFields} (h : IsJob job) (some : IsSome job.rate) where
  chans-sound : All IsChan (map chan_of job.bands)
  chans-sound = All-map (λ (b : List ℕ × Band). b.1.hertz < 2 ^ 40) IsChan chan_of job.bands (λ b below. record { hertz = below; band = omega arith }) h.bands

  chans-differ : AreDistinct (map (λ (c : ScanChan). c.id) (map chan_of job.bands))
  chans-differ = rw (map-both (λ (c : ScanChan). c.id) chan_of (λ (b : List ℕ × Band). b.0) job.bands (λ b. refl)) h.band_names

  pass-sound : (samples : ℕ) (s : StationFields) → IsPass (pass_of (unwrap_or job.rate 0) (map chan_of job.bands) samples s)
  pass-sound samples s = record {
    start = omega (arith, ints);
    order = omega (arith, ints);
    rate = rate-some job.rate some h.rate;
    chans = chans-sound;
    distinct = chans-differ;
  }

  scan-sound : (scan : List ℕ × ScanSpan) → IsSpan scan → IsScan (scan_of (unwrap_or job.rate 0) (map chan_of job.bands) job.stations scan)
  scan-sound scan span = record {
    named = omega (arith, span.0.0);
    short = span.0.1;
    second = span.1.0;
    passes = All-map (λ (s : StationFields). Unit {0}) IsPass (pass_of (unwrap_or job.rate 0) (map chan_of job.bands) scan.1.samples) job.stations
        (λ s _. pass-sound scan.1.samples s) (λ k d less. tt);
    distinct = rw (map-both (λ (p : Pass). p.key) (pass_of (unwrap_or job.rate 0) (map chan_of job.bands) scan.1.samples) (λ (s : StationFields). s.key) job.stations (λ s. refl)) h.keys;
  }

  pub scans-sound : AreScans (scans_of job)
  scans-sound = record {
    each = All-map IsSpan IsScan (scan_of (unwrap_or job.rate 0) (map chan_of job.bands) job.stations) job.scans scan-sound h.scans;
    distinct = rw (map-both (λ (s : WholeScan). s.name) (scan_of (unwrap_or job.rate 0) (map chan_of job.bands) job.stations) (λ (s : List ℕ × ScanSpan). s.0) job.scans (λ s. refl)) h.scan_names;
  }
