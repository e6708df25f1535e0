-- The verdict on the integrations that are left, as they are compared one after another.
use Rattle.std.specs.Prelude.{Option, None, Err}
use Rattle.std.proofs.Common.{◌≡◌, ◌∙◌, sym, ap, subst, refl, ℕ, ◌+◌, ◌-◌, ◌≤◌, ◌<◌, List, ◌++◌, length, get_or, arith}
use Rattle.corr_model.specs.Files.{Files}
use Rattle.piece_plan.specs.declared.job.ScanSize.{ScanSize}
use Rattle.piece_plan.specs.Epochs.{JobSizes, integration_count}
use Rattle.journal_image.specs.Image.{KeptEpoch}
use Rattle.shard_merge.specs.declared.shard.Shard.{Shard}
use Rattle.shard_merge.specs.declared.fault.MergeFault.{MergeFault}
use Rattle.shard_merge.specs.Verdict.{integrations_in, verdict_at, verdict_from, IsVerdict}
use Rattle.shard_merge.specs.CompareSteps.{scan_places, job_places, Knows}
use Rattle.shard_merge.proofs.CompareVerdicts.{verdict_from-cons_none, verdict_from-append_none, IsVerdict-first, IsVerdict-append, scan_places-cons, length-scan_places, job_places-append, job_places-none}
use Rattle.shard_merge.proofs.CompareShards.{Knows-weaker, Knows-always, Knows-both}

-- the verdict on a scan's integrations is that on those from the k-th one on
abbrev pub IsLeftInScan : JobSizes → ℕ → ℕ → ℕ → ℕ → ℕ → List (List KeptEpoch) → Type 0
IsLeftInScan job number i from count k keeps =
    verdict_from job keeps i (scan_places number from count) ≡ verdict_from job keeps (i + k) (scan_places number (from + k) (count - k))

pub IsLeftInScan-begin : (told : Option Files) (job : JobSizes) (shards : List Shard) (number i from count : ℕ)
    → Knows told job shards (IsLeftInScan job number i from count 0)
IsLeftInScan-begin told job shards number i from count =
    let here : i ≡ i + 0 = omega arith in
    let at : from ≡ from + 0 = omega arith in
    let all : count ≡ count - 0 = omega arith in
    Knows-always told job shards (IsLeftInScan job number i from count 0)
    (λ keeps.
    ap (λ n. verdict_from job keeps n (scan_places number from count)) here
    ∙ ap (λ n. verdict_from job keeps (i + 0) (scan_places number n count)) at
    ∙ ap (λ n. verdict_from job keeps (i + 0) (scan_places number (from + 0) n)) all)

pub IsLeftInScan-more : (told now : Option Files) (job : JobSizes) (shards : List Shard) (number i from count k : ℕ) → now ≡ told → k < count
    → Knows told job shards (IsLeftInScan job number i from count k)
    → Knows now job shards (λ keeps. verdict_at job keeps (i + k) (number, from + k) ≡ None)
    → Knows told job shards (IsLeftInScan job number i from count (k + 1))
IsLeftInScan-more told now job shards number i from count k same within left none =
    let next : (i + k) + 1 ≡ i + (k + 1) = omega arith in
    Knows-both told now job shards (IsLeftInScan job number i from count k)
    (λ keeps. verdict_at job keeps (i + k) (number, from + k) ≡ None)
    (IsLeftInScan job number i from count (k + 1)) same
    (λ keeps is here.
    is
    ∙ ap (verdict_from job keeps (i + k)) (scan_places-cons number from count k within)
    ∙ verdict_from-cons_none job keeps (i + k) (number, from + k) (scan_places number (from + (k + 1)) (count - (k + 1))) here
    ∙ ap (λ n. verdict_from job keeps n (scan_places number (from + (k + 1)) (count - (k + 1)))) next)
    left none

pub IsLeftInScan-fault : (T : Type 0) (told now : Option Files) (job : JobSizes) (shards : List Shard) (number i from count k : ℕ) (fault : MergeFault)
    → now ≡ told → k < count → Knows told job shards (IsLeftInScan job number i from count k)
    → Knows now job shards (λ keeps. IsVerdict {T = T} (verdict_at job keeps (i + k) (number, from + k)) (Err fault))
    → Knows told job shards (λ keeps. IsVerdict {T = T} (verdict_from job keeps i (scan_places number from count)) (Err fault))
IsLeftInScan-fault T told now job shards number i from count k fault same within left found =
    Knows-both told now job shards (IsLeftInScan job number i from count k)
    (λ keeps. IsVerdict {T = T} (verdict_at job keeps (i + k) (number, from + k)) (Err fault))
    (λ keeps. IsVerdict {T = T} (verdict_from job keeps i (scan_places number from count)) (Err fault)) same
    (λ keeps is here.
    subst (λ (want : Option MergeFault). IsVerdict {T = T} want (Err fault))
    (sym (is ∙ ap (verdict_from job keeps (i + k)) (scan_places-cons number from count k within)))
    (IsVerdict-first T job keeps (i + k) (number, from + k) (scan_places number (from + (k + 1)) (count - (k + 1))) fault here))
    left found

pub IsLeftInScan-end : (told : Option Files) (job : JobSizes) (shards : List Shard) (number i from count k : ℕ) → count ≤ k
    → Knows told job shards (IsLeftInScan job number i from count k)
    → Knows told job shards (λ keeps. verdict_from job keeps i (scan_places number from count) ≡ None)
IsLeftInScan-end told job shards number i from count k all left =
    let none : count - k ≡ 0 = omega arith in
    Knows-weaker told job shards (IsLeftInScan job number i from count k)
    (λ keeps. verdict_from job keeps i (scan_places number from count) ≡ None)
    (λ keeps is. is ∙ ap (λ n. verdict_from job keeps (i + k) (scan_places number (from + k) n)) none)
    left

-- the verdict on the job is that on the integrations of the scans from one on, the first of which has this number
abbrev pub IsLeftInJob : JobSizes → ℕ → ℕ → List (List KeptEpoch) → Type 0
IsLeftInJob job i number keeps = verdict_from job keeps 0 (integrations_in job) ≡ verdict_from job keeps i (job_places job number)

pub IsLeftInJob-begin : (told : Option Files) (job : JobSizes) (shards : List Shard) → Knows told job shards (IsLeftInJob job 0 0)
IsLeftInJob-begin told job shards = Knows-always told job shards (IsLeftInJob job 0 0) (λ keeps. refl)

pub IsLeftInJob-more : (told now : Option Files) (job : JobSizes) (shards : List Shard) (i number count : ℕ) (size : ScanSize) → now ≡ told
    → number < length job.scans → size ≡ get_or job.scans number size → count ≡ integration_count job size
    → Knows told job shards (IsLeftInJob job i number)
    → Knows now job shards (λ keeps. verdict_from job keeps i (scan_places number size.first count) ≡ None)
    → Knows told job shards (IsLeftInJob job (i + count) (number + 1))
IsLeftInJob-more told now job shards i number count size same within is many left none =
    Knows-both told now job shards (IsLeftInJob job i number)
    (λ keeps. verdict_from job keeps i (scan_places number size.first count) ≡ None)
    (IsLeftInJob job (i + count) (number + 1)) same
    (λ keeps before here.
    before
    ∙ ap (verdict_from job keeps i) (job_places-append job number size within is)
    ∙ ap (λ n. verdict_from job keeps i (scan_places number size.first n ++ job_places job (number + 1))) (sym many)
    ∙ verdict_from-append_none job keeps i (scan_places number size.first count) (job_places job (number + 1)) here
    ∙ ap (λ n. verdict_from job keeps (i + n) (job_places job (number + 1))) (length-scan_places number size.first count))
    left none

pub IsLeftInJob-fault : (T : Type 0) (told now : Option Files) (job : JobSizes) (shards : List Shard) (i number count : ℕ) (size : ScanSize) (fault : MergeFault)
    → now ≡ told → number < length job.scans → size ≡ get_or job.scans number size → count ≡ integration_count job size
    → Knows told job shards (IsLeftInJob job i number)
    → Knows now job shards (λ keeps. IsVerdict {T = T} (verdict_from job keeps i (scan_places number size.first count)) (Err fault))
    → Knows told job shards (λ keeps. IsVerdict {T = T} (verdict_from job keeps 0 (integrations_in job)) (Err fault))
IsLeftInJob-fault T told now job shards i number count size fault same within is many left found =
    Knows-both told now job shards (IsLeftInJob job i number)
    (λ keeps. IsVerdict {T = T} (verdict_from job keeps i (scan_places number size.first count)) (Err fault))
    (λ keeps. IsVerdict {T = T} (verdict_from job keeps 0 (integrations_in job)) (Err fault)) same
    (λ keeps before here.
    subst (λ (want : Option MergeFault). IsVerdict {T = T} want (Err fault))
    (sym
    (before
    ∙ ap (verdict_from job keeps i) (job_places-append job number size within is)
    ∙ ap (λ n. verdict_from job keeps i (scan_places number size.first n ++ job_places job (number + 1))) (sym many)))
    (IsVerdict-append T job keeps i (scan_places number size.first count) (job_places job (number + 1)) fault here))
    left found

pub IsLeftInJob-end : (told : Option Files) (job : JobSizes) (shards : List Shard) (i number : ℕ) → length job.scans ≤ number
    → Knows told job shards (IsLeftInJob job i number)
    → Knows told job shards (λ keeps. verdict_from job keeps 0 (integrations_in job) ≡ None)
IsLeftInJob-end told job shards i number all left =
    Knows-weaker told job shards (IsLeftInJob job i number) (λ keeps. verdict_from job keeps 0 (integrations_in job) ≡ None)
    (λ keeps is. is ∙ ap (verdict_from job keeps i) (job_places-none job number all))
    left
