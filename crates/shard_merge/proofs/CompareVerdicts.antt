-- What is wrong with the first of some integrations, and with those after them.
use Rattle.std.specs.Prelude.{map, flat_map, Option, None, Some, Err}
use Rattle.std.specs.List.{range_with_len, enumerate_from}
use Rattle.std.proofs.Common.{◌≡◌, ◌∙◌, sym, ap, refl, ℕ, suc, ◌+◌, ◌-◌, ◌≤◌, ◌<◌, List, [], ◌∷◌, ◌++◌, ◌⊎◌, inl, inr, ⊎_elim, length, drop, get_or, arith}
use Rattle.std.proofs.Math.Seq.{drop-cons}
use Rattle.std.proofs.lemmas.List.FromFn.{length-map-range_with_len}
use Rattle.std.proofs.lemmas.List.{drop_all}
use Rattle.piece_plan.specs.declared.job.ScanSize.{ScanSize}
use Rattle.piece_plan.specs.Epochs.{JobSizes, integration_count}
use Rattle.journal_image.specs.Image.{KeptEpoch}
use Rattle.shard_merge.specs.declared.fault.MergeFault.{MergeFault}
use Rattle.shard_merge.specs.declared.fault.MergeFault.TheVariants.{Read, Uncovered, Differs, Memory}
use Rattle.shard_merge.specs.Verdict.{integrations_in, verdict_at, verdict_from, IsVerdict}
use Rattle.shard_merge.specs.CompareSteps.{scan_places, job_places}

none-or_some : {A : Type 0} (x : Option A) → (x ≡ None) ⊎ ((a : A) × (x ≡ Some a))
none-or_some None = inl refl
none-or_some (Some a) = inr (a, refl)

pub verdict_from-cons_none : (job : JobSizes) (keeps : List (List KeptEpoch)) (i : ℕ) (p : ℕ × ℕ) (places : List (ℕ × ℕ))
    → verdict_at job keeps i p ≡ None → verdict_from job keeps i (p ∷ places) ≡ verdict_from job keeps (i + 1) places
verdict_from-cons_none job keeps i p places none = rw none refl

pub verdict_from-cons_some : (job : JobSizes) (keeps : List (List KeptEpoch)) (i : ℕ) (p : ℕ × ℕ) (places : List (ℕ × ℕ)) (fault : MergeFault)
    → verdict_at job keeps i p ≡ Some fault → verdict_from job keeps i (p ∷ places) ≡ Some fault
verdict_from-cons_some job keeps i p places fault some = rw some refl

pub verdict_from-append_none : (job : JobSizes) (keeps : List (List KeptEpoch)) (i : ℕ) (places more : List (ℕ × ℕ))
    → verdict_from job keeps i places ≡ None
    → verdict_from job keeps i (places ++ more) ≡ verdict_from job keeps (i + length places) more
verdict_from-append_none job keeps i [] more none =
    let same : i ≡ i + 0 = omega arith in
    ap (λ n. verdict_from job keeps n more) same
verdict_from-append_none job keeps i (p ∷ places) more none =
    let same : (i + 1) + length places ≡ i + suc (length places) = omega arith in
    ⊎_elim
    (λ here.
    verdict_from-cons_none job keeps i p (places ++ more) here
    ∙ verdict_from-append_none job keeps (i + 1) places more (sym (verdict_from-cons_none job keeps i p places here) ∙ none)
    ∙ ap (λ n. verdict_from job keeps n more) same)
    (λ there. let found = verdict_from-cons_some job keeps i p places there.0 there.1 in cc)
    (none-or_some (verdict_at job keeps i p))

pub verdict_from-append_some : (job : JobSizes) (keeps : List (List KeptEpoch)) (i : ℕ) (places more : List (ℕ × ℕ)) (fault : MergeFault)
    → verdict_from job keeps i places ≡ Some fault → verdict_from job keeps i (places ++ more) ≡ Some fault
verdict_from-append_some job keeps i [] more fault some = cc
verdict_from-append_some job keeps i (p ∷ places) more fault some =
    ⊎_elim
    (λ here.
    verdict_from-cons_none job keeps i p (places ++ more) here
    ∙ verdict_from-append_some job keeps (i + 1) places more fault (sym (verdict_from-cons_none job keeps i p places here) ∙ some))
    (λ there.
    let found = verdict_from-cons_some job keeps i p places there.0 there.1 in
    verdict_from-cons_some job keeps i p (places ++ more) there.0 there.1 ∙ sym found ∙ some)
    (none-or_some (verdict_at job keeps i p))

-- a fault that is found in the first of some integrations is that of them all
pub IsVerdict-first : (T : Type 0) (job : JobSizes) (keeps : List (List KeptEpoch)) (i : ℕ) (p : ℕ × ℕ) (places : List (ℕ × ℕ)) (fault : MergeFault)
    → IsVerdict {T = T} (verdict_at job keeps i p) (Err fault) → IsVerdict {T = T} (verdict_from job keeps i (p ∷ places)) (Err fault)
IsVerdict-first T job keeps i p places Read found = tt
IsVerdict-first T job keeps i p places (Uncovered n) found = verdict_from-cons_some job keeps i p places (Uncovered n) found
IsVerdict-first T job keeps i p places (Differs d) found = verdict_from-cons_some job keeps i p places (Differs d) found
IsVerdict-first T job keeps i p places Memory found = tt

pub IsVerdict-append : (T : Type 0) (job : JobSizes) (keeps : List (List KeptEpoch)) (i : ℕ) (places more : List (ℕ × ℕ)) (fault : MergeFault)
    → IsVerdict {T = T} (verdict_from job keeps i places) (Err fault) → IsVerdict {T = T} (verdict_from job keeps i (places ++ more)) (Err fault)
IsVerdict-append T job keeps i places more Read found = tt
IsVerdict-append T job keeps i places more (Uncovered n) found = verdict_from-append_some job keeps i places more (Uncovered n) found
IsVerdict-append T job keeps i places more (Differs d) found = verdict_from-append_some job keeps i places more (Differs d) found
IsVerdict-append T job keeps i places more Memory found = tt

scan_places-suc : (number from n : ℕ) → scan_places number from (suc n) ≡ (number, from) ∷ scan_places number (from + 1) n
scan_places-suc number from n = refl

-- the integrations of a scan that are left
pub scan_places-cons : (number from count k : ℕ) → k < count
    → scan_places number (from + k) (count - k) ≡ (number, from + k) ∷ scan_places number (from + (k + 1)) (count - (k + 1))
scan_places-cons number from count k within =
    let left : count - k ≡ suc (count - (k + 1)) = omega arith in
    let next : (from + k) + 1 ≡ from + (k + 1) = omega arith in
    ap (scan_places number (from + k)) left
    ∙ scan_places-suc number (from + k) (count - (k + 1))
    ∙ ap (λ at. (number, from + k) ∷ scan_places number at (count - (k + 1))) next

pub length-scan_places : (number from count : ℕ) → length (scan_places number from count) ≡ count
length-scan_places number from count = length-map-range_with_len (λ (m : ℕ). (number, m)) from count

pub job_places-first : (job : JobSizes) → job_places job 0 ≡ integrations_in job
job_places-first job = refl

-- those of the scans that are left
pub job_places-append : (job : JobSizes) (number : ℕ) (size : ScanSize) → number < length job.scans → size ≡ get_or job.scans number size
    → job_places job number ≡ scan_places number size.first (integration_count job size) ++ job_places job (number + 1)
job_places-append job number size within is =
    let next : suc number ≡ number + 1 = omega arith in
    let rest : drop number job.scans ≡ size ∷ drop (number + 1) job.scans =
    drop-cons job.scans number size within ∙ ap (λ (s : ScanSize). s ∷ drop (suc number) job.scans) (sym is) ∙ ap (λ n. size ∷ drop n job.scans) next in
    ap
    (λ scans. flat_map (λ (s : ℕ × ScanSize). map (λ (m : ℕ). (s.0, m)) (range_with_len s.1.first (integration_count job s.1)))
    (enumerate_from number scans))
    rest

pub job_places-none : (job : JobSizes) (number : ℕ) → length job.scans ≤ number → job_places job number ≡ []
job_places-none job number all =
    ap
    (λ scans. flat_map (λ (s : ℕ × ScanSize). map (λ (m : ℕ). (s.0, m)) (range_with_len s.1.first (integration_count job s.1)))
    (enumerate_from number scans))
    (drop_all number job.scans all)
