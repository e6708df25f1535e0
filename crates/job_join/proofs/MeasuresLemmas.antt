-- The quantities of a job, one after the other.
use Rattle.std.specs.Int.{div_ceil}
use Rattle.std.specs.Prelude.{filter_map}
use Rattle.std.specs.Option.{option_or}
use Rattle.std.specs.List.{cons_option}
use Rattle.std.proofs.Common.{◌≡◌, ℕ, ◌+◌, ◌*◌, ◌/◌, ◌%◌, ◌^◌, ◌<◌, ◌≤◌, min, Bool, true, false, List, [], ◌∷◌, ◌++◌, filter, take, length, get_or, slice_get, None, Some, Option, is_some, All, ap, refl, sym, ◌∙◌, arith, div-add-mod'}
use Rattle.std.proofs.lemmas.List.{length-append, length-map}
use Rattle.std.proofs.lemmas.Nat.{mul-le}
use Rattle.scan_list.specs.declared.scan.Scan.{Scan}
use Rattle.job_text.specs.Job.{JobFields}
use Rattle.job_join.specs.declared.fault.Quantity.{Quantity}
use Rattle.job_join.specs.declared.stands.Here.{Here}
use Rattle.job_join.specs.declared.fault.Quantity.TheVariants.{Stations}
use Rattle.job_join.specs.Standing.{rate_of, taken}
use Rattle.job_join.specs.Spans.{samples_of}
use Rattle.job_join.specs.Limits.{Measure, measure, measures, past, limit}
use Rattle.job_join.specs.Planned.{pair_of, is_pair, pairs_with, pairs_in}
use Rattle.job_join.specs.Measured.{first_past, job_measures, length_measures, size_measures}
use Rattle.job_join.proofs.PlansLemmas.{firsts-turn}
use Rattle.job_join.proofs.RangesAccepted.{IsHeld, held}
use Rattle.job_join.proofs.RangesLists.{All-from_map}

-- so many parts of some samples are no more than those
div_ceil-le : (n epoch : ℕ) → 0 < epoch → div_ceil n epoch ≤ n
div_ceil-le n epoch some = by (n / epoch) (n % epoch) (div-add-mod' n epoch)
  where
    by : (quotient rest : ℕ) → quotient * epoch + rest ≡ n → quotient + min 1 rest ≤ n
    by quotient rest is = omega (arith, mul-le quotient 1 quotient epoch (omega arith) some)

pub epochs_in-le : (samples integration epoch : ℕ) → 0 < epoch
    → samples / integration * div_ceil integration epoch + div_ceil (samples % integration) epoch ≤ samples
epochs_in-le samples integration epoch some =
    omega (
      arith,
      div-add-mod' samples integration,
      div_ceil-le (samples % integration) epoch some,
      mul-le (samples / integration) (div_ceil integration epoch) (samples / integration) integration (omega arith) (div_ceil-le integration epoch some),
    )

-- the first of some quantities
first_past-append : (xs ys : List Measure) → first_past (xs ++ ys) ≡ option_or (first_past xs) (first_past ys)
first_past-append [] ys = refl
first_past-append (x ∷ xs) ys = by (past x) (first_past-append xs ys)
  where
    by : (o : Option (Quantity × ℕ)) → first_past (xs ++ ys) ≡ option_or (first_past xs) (first_past ys)
        → slice_get (cons_option o (filter_map past (xs ++ ys))) 0 ≡ option_or (slice_get (cons_option o (filter_map past xs)) 0) (first_past ys)
    by None rest = rest
    by (Some x) rest = refl

-- a job's limit from its quantities, as they are measured
pub limit-parts : (job : JobFields) (epoch : ℕ) (scans : List Scan) (rate : ℕ) (a b c : Option (Quantity × ℕ)) → rate ≡ rate_of job scans
    → a ≡ first_past (job_measures job) → b ≡ first_past (length_measures job rate (taken job scans)) → c ≡ first_past (size_measures job epoch rate (taken job scans))
    → option_or a (option_or b c) ≡ limit job epoch scans
unfolding limit measures
limit-parts job epoch scans rate a b c same counts lengths sizes =
    let long : ℕ → List Measure = λ r. length_measures job r (taken job scans) in
    let large : ℕ → List Measure = λ r. size_measures job epoch r (taken job scans) in
    let parts : option_or a (option_or b c) ≡ option_or (first_past (job_measures job)) (option_or (first_past (long rate)) (first_past (large rate))) = cc in
    parts ∙ ap (λ r. option_or (first_past (job_measures job)) (option_or (first_past (long r)) (first_past (large r)))) same
    ∙ sym (first_past-append (job_measures job) (long (rate_of job scans) ++ large (rate_of job scans))
    ∙ ap (option_or (first_past (job_measures job))) (first_past-append (long (rate_of job scans)) (large (rate_of job scans))))

pub or-first : {X : Type 0} (o p : Option X) → is_some o ≡ true → o ≡ option_or o p
or-first None p some = absurd cc
or-first (Some x) p some = refl

pub or-second : {X : Type 0} (o p : Option X) → is_some o ≡ false → p ≡ option_or o p
or-second None p none = refl
or-second (Some x) p none = absurd cc

-- where no scan is too long each has so many samples at most
pub length_measures-none : (job : JobFields) (rate : ℕ) (scans : List Scan) → first_past (length_measures job rate scans) ≡ None → All (λ scan. samples_of job rate scan ≤ 2 ^ 40) scans
length_measures-none job rate scans none =
    let each : All IsHeld (length_measures job rate scans) = held (length_measures job rate scans) none in
    let other : Measure = measure Stations 0 [] in
    All-from_map (λ value. value ≤ 2 ^ 40) (samples_of job rate) scans (each 0 other (omega arith))

-- the baselines of one more station are counted
pub length-firsts : (auto : Bool) (hs : List Here) (i : ℕ) (h : Here) (count with : ℕ) → i < length hs → h ≡ get_or hs i h
    → count ≡ length (pairs_in auto hs (take i hs)) → with ≡ length (filter (λ (other : Here). is_pair auto h.number other.number) hs)
    → count + with ≡ length (pairs_in auto hs (take (i + 1) hs))
length-firsts auto hs i h count with less is so_far one =
    omega (
      arith,
      length-append (pairs_in auto hs (take i hs)) (pairs_with auto h.number hs),
      length-map (filter (λ (other : Here). is_pair auto h.number other.number) hs) (λ (other : Here). pair_of h.number other.number),
      ap length (firsts-turn auto hs i h (pairs_in auto hs (take i hs)) _ less is refl refl),
    )
