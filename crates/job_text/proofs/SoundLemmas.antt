-- What rows without a fault say is in its ranges.
use Rattle.std.proofs.Common.{◌≡◌, ◌≢◌, ◌==◌, ℕ, zero, suc, ◌-◌, ◌^◌, ◌%◌, ◌<◌, ◌≤◌, Bool, true, false, cond, ◌&&◌, ◌||◌, nat_le, List, [], ◌∷◌, ◌++◌, length, get_or, Option, Some, None, is_some, option_to_list, Result, Ok, Err, refl, sym, ap, subst, ◌∙◌, arith, bytes_eq}
use Rattle.std.specs.Prelude.{ℤ, pos, negsuc, IfSome, OnOk, codes}
use Rattle.std.specs.List.{All, list_any}
use Rattle.std.proofs.lemmas.Bool.Decides.{nat_tests}
use Rattle.std.proofs.lemmas.List.{map_push}
use Rattle.std.proofs.lemmas.List.Elements.{All-push, All-nil}
use Rattle.std.proofs.lemmas.List.Quantifiers.{all_pairs_push}
use Rattle.named_list.specs.Named.{named, names}
use Rattle.job_lines.specs.declared.word.Word.{Word}
use Rattle.job_lines.specs.declared.word.Word.TheVariants.{Lags, Integration, Epoch, Knot, Auto, Station, File, Chan, Clock, Poly, Product, Take, Rate, Scan, Band}
use Rattle.job_text.specs.declared.fault.JobKind.{JobKind}
use Rattle.job_text.specs.declared.places.ScanSpan.{ScanSpan}
use Rattle.job_text.specs.declared.places.Band.{Band as BandPlace}
use Rattle.job_text.specs.Ranges.{IsName, IsSpan, AreDistinct}
use Rattle.job_lines.specs.Values.{bounded}
use Rattle.job_text.specs.Values.{◌>>=◌, field, name_fits, whole_of, second_of, number_within, lags_in, scan_in, band_in}
use Rattle.job_text.specs.Said.{Said, said_by, each}
use Rattle.job_text.specs.Faults.{double_or_range, row_fault}
use Rattle.job_text.specs.Growing.{Takes, grown}
use Rattle.job_text.specs.Sound.{IsSaid, IsSoundRow}
use Rattle.job_text.proofs.NameLemmas.{same_name, among-names}
use Rattle.job_text.proofs.TextLemmas.{both_left, both_right}

-- a number that a text says from low to high
number_within-range : (low high : ℕ) (text : List ℕ) → IfSome (number_within low high text) (λ n. (low ≤ n) × (n ≤ high))
unfolding number_within
number_within-range low high text = by (whole_of text)
  where
    at : (n : ℕ) (b : Bool) → (nat_le low n && nat_le n high) ≡ b → IfSome (cond b (Some n) None) (λ n. (low ≤ n) × (n ≤ high))
    at n true e =
        let above : nat_le low n ≡ true = both_left (nat_le low n) (nat_le n high) e in
        let below : nat_le n high ≡ true = both_right (nat_le low n) (nat_le n high) e in
        (grind (arith, nat_tests, above), grind (arith, nat_tests, below))
    at n false e = tt

    by : (o : Option ℤ) → IfSome (o >>= bounded low high) (λ n. (low ≤ n) × (n ≤ high))
    by None = tt
    by (Some (pos n)) = at n (nat_le low n && nat_le n high) refl
    by (Some (negsuc n)) = tt

IfSome-weaker : {A : Type 0} (P Q : A → Type 0) (o : Option A) → ((x : A) → P x → Q x) → IfSome o P → IfSome o Q
IfSome-weaker P Q None f h = tt
IfSome-weaker P Q (Some x) f h = f x h

lags_in-range : (fields : List (List ℕ)) → IfSome (lags_in fields) (λ n. (2 ≤ n) × (n ≤ 1024) × (n % 2 ≡ 0))
unfolding lags_in
lags_in-range fields = by (number_within 2 1024 (field fields 0)) (number_within-range 2 1024 (field fields 0))
  where
    at : (n : ℕ) (b : Bool) → (n % 2 == 0) ≡ b → (2 ≤ n) × (n ≤ 1024) → IfSome (cond b (Some n) None) (λ n. (2 ≤ n) × (n ≤ 1024) × (n % 2 ≡ 0))
    at n true e h = (h.0, h.1, grind (arith, nat_tests, e))
    at n false e h = tt

    by : (o : Option ℕ) → IfSome o (λ n. (2 ≤ n) × (n ≤ 1024)) → IfSome (o >>= (λ n. cond (n % 2 == 0) (Some n) None)) (λ n. (2 ≤ n) × (n ≤ 1024) × (n % 2 ≡ 0))
    by None h = tt
    by (Some n) h = at n (n % 2 == 0) refl h

band_in-range : (fields : List (List ℕ)) → IfSome (band_in fields) (λ (b : List ℕ × BandPlace). (b.0 ≡ field fields 0) × (b.1.hertz < 2 ^ 40))
unfolding band_in
band_in-range fields = by (number_within 0 (2 ^ 40 - 1) (field fields 1)) (number_within-range 0 (2 ^ 40 - 1) (field fields 1))
  where
    by : (o : Option ℕ) → IfSome o (λ n. (0 ≤ n) × (n ≤ 2 ^ 40 - 1)) → IfSome (o >>= (λ n. Some (field fields 0, record { hertz = n; upper = bytes_eq (field fields 2) (codes "U") }))) (λ (b : List ℕ × BandPlace). (b.0 ≡ field fields 0) × (b.1.hertz < 2 ^ 40))
    by None h = tt
    by (Some n) h = (refl, omega (arith, h.1))

scan_in-name : (fields : List (List ℕ)) → IfSome (scan_in fields) (λ (s : List ℕ × ScanSpan). s.0 ≡ field fields 0)
unfolding scan_in
scan_in-name fields = by (second_of (field fields 1)) (number_within 0 (2 ^ 40) (field fields 2)) (name_fits (field fields 0))
  where
    by : (a : Option ℤ) (o : Option ℕ) (b : Bool) → IfSome (a >>= (λ second. o >>= (λ samples. cond b (Some (field fields 0, record { second = second; samples = samples })) None))) (λ (s : List ℕ × ScanSpan). s.0 ≡ field fields 0)
    by None o b = tt
    by (Some second) None b = tt
    by (Some second) (Some samples) true = refl
    by (Some second) (Some samples) false = tt

-- a name that no thing has differs from each of theirs
differs-new : (name : List ℕ) (ns : List (List ℕ)) → list_any (λ other. bytes_eq other name) ns ≡ false → (k : ℕ) (d : List ℕ) → k < length ns → get_or ns k d ≢ name
differs-new name [] h k d less = absurd (omega arith)
differs-new name (n ∷ ns) h zero d less = λ same.
    let here : bytes_eq n name ≡ true = ap (λ m. bytes_eq m name) same ∙ same_name name in
    let there : (bytes_eq n name || list_any (λ other. bytes_eq other name) ns) ≡ true = (λ i. here i || list_any (λ other. bytes_eq other name) ns) in
    let odd : true ≡ false = sym there ∙ h in absurd cc
differs-new name (n ∷ ns) h (suc k) d less = differs-new name ns (by (bytes_eq n name) h) k d (omega arith)
  where
    by : (b : Bool) → (b || list_any (λ other. bytes_eq other name) ns) ≡ false → list_any (λ other. bytes_eq other name) ns ≡ false
    by true e = absurd cc
    by false e = e

-- names with a new one differ
AreDistinct-push : {A : Type 0} (xs : List (List ℕ × A)) (x : List ℕ × A) → is_some (named xs x.0) ≡ false → AreDistinct (names xs) → AreDistinct (names (xs ++ x ∷ []))
AreDistinct-push {A} xs x new h =
    rw (map_push (λ (x : List ℕ × A). x.0) xs x)
    (all_pairs_push (λ a b. a ≢ b) (names xs) x.0 h (differs-new x.0 (names xs) (sym (among-names xs x.0) ∙ new)))

-- what stands once and in its range behind others
module _ {A : Type 0} (P : List ℕ × A → Type 0) (xs : List (List ℕ × A)) (key : List ℕ) where
  pub All-once : (o : Option (List ℕ × A)) → double_or_range (is_some (named xs key)) o ≡ None → IfSome o P → All P xs → All P (xs ++ option_to_list o)
  All-once None free one all = absurd (by (is_some (named xs key)) free)
    where
      by : (b : Bool) → double_or_range {A = List ℕ × A} b None ≡ None → ⊥
      by true e = cc
      by false e = cc
  All-once (Some x) free one all = All-push P xs x all one

  pub AreDistinct-once : (o : Option (List ℕ × A)) → double_or_range (is_some (named xs key)) o ≡ None → IfSome o (λ x. x.0 ≡ key) → AreDistinct (names xs) → AreDistinct (names (xs ++ option_to_list o))
  AreDistinct-once None free same h = absurd (by (is_some (named xs key)) free)
    where
      by : (b : Bool) → double_or_range {A = List ℕ × A} b None ≡ None → ⊥
      by true e = cc
      by false e = cc
  AreDistinct-once (Some x) free same h = AreDistinct-push xs x (ap (λ k. is_some (named xs k)) same ∙ by (is_some (named xs key)) free) h
    where
      by : (b : Bool) → double_or_range b (Some x) ≡ None → b ≡ false
      by true e = absurd cc
      by false e = refl

-- a row without a fault keeps all in its ranges
pub IsSaid-grown : (said : Said) (w : Word) (fields : List (List ℕ)) → row_fault said w fields ≡ None → IsSoundRow w fields → IsSaid said → IsSaid (grown said w fields)
unfolding grown row_fault
IsSaid-grown said Lags fields free row h = record { lags = lags_in-range fields; integration = h.integration; epoch = h.epoch; knot = h.knot; rate = h.rate; products = h.products; scans = h.scans; bands = h.bands; scan_names = h.scan_names; band_names = h.band_names }
IsSaid-grown said Integration fields free row h = record { lags = h.lags; integration = number_within-range 1 (2 ^ 36) (field fields 0); epoch = h.epoch; knot = h.knot; rate = h.rate; products = h.products; scans = h.scans; bands = h.bands; scan_names = h.scan_names; band_names = h.band_names }
IsSaid-grown said Epoch fields free row h = record { lags = h.lags; integration = h.integration; epoch = number_within-range 1 4194304 (field fields 0); knot = h.knot; rate = h.rate; products = h.products; scans = h.scans; bands = h.bands; scan_names = h.scan_names; band_names = h.band_names }
IsSaid-grown said Knot fields free row h = record { lags = h.lags; integration = h.integration; epoch = h.epoch; knot = number_within-range 1 (2 ^ 24) (field fields 0); rate = h.rate; products = h.products; scans = h.scans; bands = h.bands; scan_names = h.scan_names; band_names = h.band_names }
IsSaid-grown said Auto fields free row h = record { lags = h.lags; integration = h.integration; epoch = h.epoch; knot = h.knot; rate = h.rate; products = h.products; scans = h.scans; bands = h.bands; scan_names = h.scan_names; band_names = h.band_names }
IsSaid-grown said Station fields free row h = record { lags = h.lags; integration = h.integration; epoch = h.epoch; knot = h.knot; rate = h.rate; products = h.products; scans = h.scans; bands = h.bands; scan_names = h.scan_names; band_names = h.band_names }
IsSaid-grown said File fields free row h = record { lags = h.lags; integration = h.integration; epoch = h.epoch; knot = h.knot; rate = h.rate; products = h.products; scans = h.scans; bands = h.bands; scan_names = h.scan_names; band_names = h.band_names }
IsSaid-grown said Chan fields free row h = record { lags = h.lags; integration = h.integration; epoch = h.epoch; knot = h.knot; rate = h.rate; products = h.products; scans = h.scans; bands = h.bands; scan_names = h.scan_names; band_names = h.band_names }
IsSaid-grown said Clock fields free row h = record { lags = h.lags; integration = h.integration; epoch = h.epoch; knot = h.knot; rate = h.rate; products = h.products; scans = h.scans; bands = h.bands; scan_names = h.scan_names; band_names = h.band_names }
IsSaid-grown said Poly fields free row h = record { lags = h.lags; integration = h.integration; epoch = h.epoch; knot = h.knot; rate = h.rate; products = h.products; scans = h.scans; bands = h.bands; scan_names = h.scan_names; band_names = h.band_names }
IsSaid-grown said Product fields free row h = record { lags = h.lags; integration = h.integration; epoch = h.epoch; knot = h.knot; rate = h.rate; products = All-push (λ (p : List ℕ × List ℕ). IsName p.0 × IsName p.1) said.products (field fields 0, field fields 1) h.products row; scans = h.scans; bands = h.bands; scan_names = h.scan_names; band_names = h.band_names }
IsSaid-grown said Take fields free row h = record { lags = h.lags; integration = h.integration; epoch = h.epoch; knot = h.knot; rate = h.rate; products = h.products; scans = h.scans; bands = h.bands; scan_names = h.scan_names; band_names = h.band_names }
IsSaid-grown said Rate fields free row h = record { lags = h.lags; integration = h.integration; epoch = h.epoch; knot = h.knot; rate = IfSome-weaker (λ n. (1 ≤ n) × (n ≤ 2 ^ 32 - 1)) (λ n. (1 ≤ n) × (n < 2 ^ 32)) (number_within 1 (2 ^ 32 - 1) (field fields 0)) (λ n r. (r.0, omega (arith, r.1))) (number_within-range 1 (2 ^ 32 - 1) (field fields 0)); products = h.products; scans = h.scans; bands = h.bands; scan_names = h.scan_names; band_names = h.band_names }
IsSaid-grown said Scan fields free row h = record { lags = h.lags; integration = h.integration; epoch = h.epoch; knot = h.knot; rate = h.rate; products = h.products; scans = All-once IsSpan said.scans (field fields 0) (scan_in fields) free row h.scans; bands = h.bands; scan_names = AreDistinct-once IsSpan said.scans (field fields 0) (scan_in fields) free (scan_in-name fields) h.scan_names; band_names = h.band_names }
IsSaid-grown said Band fields free row h = record { lags = h.lags; integration = h.integration; epoch = h.epoch; knot = h.knot; rate = h.rate; products = h.products; scans = h.scans; bands = All-once (λ (b : List ℕ × BandPlace). b.1.hertz < 2 ^ 40) said.bands (field fields 0) (band_in fields) free (IfSome-weaker (λ (b : List ℕ × BandPlace). (b.0 ≡ field fields 0) × (b.1.hertz < 2 ^ 40)) (λ (b : List ℕ × BandPlace). b.1.hertz < 2 ^ 40) (band_in fields) (λ b r. r.1) (band_in-range fields)) h.bands; scan_names = h.scan_names; band_names = AreDistinct-once (λ (b : List ℕ × BandPlace). b.1.hertz < 2 ^ 40) said.bands (field fields 0) (band_in fields) free (IfSome-weaker (λ (b : List ℕ × BandPlace). (b.0 ≡ field fields 0) × (b.1.hertz < 2 ^ 40)) (λ (b : List ℕ × BandPlace). b.0 ≡ field fields 0) (band_in fields) (λ b r. r.0) (band_in-range fields)) h.band_names }

-- nothing is said
pub IsSaid-none : IsSaid (said_by [])
unfolding said_by each
IsSaid-none = record { lags = tt; integration = tt; epoch = tt; knot = tt; rate = tt; products = All-nil (λ (p : List ℕ × List ℕ). IsName p.0 × IsName p.1); scans = All-nil IsSpan; bands = All-nil (λ (b : List ℕ × BandPlace). b.1.hertz < 2 ^ 40); scan_names = none_differ; band_names = none_differ }
  where
    none_differ : AreDistinct []
    none_differ = λ i j d before inside. absurd (omega arith)

-- a row that was taken keeps all in its ranges
pub sound-taken : (said new : Said) (word : Word) (fields : List (List ℕ)) (result : Result (Unit {0}) JobKind) → Takes (row_fault said word fields) (grown said word fields) result new
    → OnOk result (IsSoundRow word fields) → OnOk result (IsSaid said → IsSaid new)
sound-taken said new word fields (Ok x) taken row = λ h. subst IsSaid (sym taken.1) (IsSaid-grown said word fields taken.0 row h)
sound-taken said new word fields (Err kind) taken row = tt
