-- The number of epochs up to the end of each scan.
use Rattle.std.specs.Prelude.{slice_get, flat_map}
use Rattle.std.specs.List.{enumerate_from}
use Rattle.std.specs.List.Sorted.{IsNonDecreasingBy}
use Rattle.std.proofs.Common.{◌≡◌, ◌∙◌, sym, ap, refl, ℕ, zero, suc, ◌+◌, ◌<◌, ◌≤◌, List, [], ◌∷◌, ◌++◌, ⊎_elim, length, take, get_or, Some, arith}
use Rattle.std.proofs.lemmas.List.{length-append, take_all, get_or_push}
use Rattle.std.proofs.lemmas.Bool.{cases_lt}
use Rattle.std.proofs.Math.ListN.{get_or-append}
use Rattle.std.proofs.lemmas.List.FromFn.{length-enumerate_from}
use Rattle.std.proofs.lemmas.List.Sorted.{IsNonDecreasingBy-from_default}
use Rattle.piece_plan.specs.declared.job.ScanSize.{ScanSize}
use Rattle.piece_plan.specs.declared.epoch.EpochPlan.{EpochPlan}
use Rattle.piece_plan.specs.Epochs.{JobSizes, scan_epochs, epochs_of}
use Rattle.piece_plan.specs.Counts.{epochs_before, AreEnds}
use Rattle.piece_plan.proofs.ListPlaces.{slice_get-enumerate, slice_get-flat_map}

length-flat_map-more : {X A : Type 0} (f : X → List A) (xs : List X) (k : ℕ) (x : X) → slice_get xs k ≡ Some x
    → length (flat_map f (take (k + 1) xs)) ≡ length (flat_map f (take k xs)) + length (f x)
length-flat_map-more f [] k x at = absurd (cc)
length-flat_map-more f (y ∷ xs) zero x at =
    let same : y ≡ x = cc in
    let one : length (f y) ≡ length (f x) = ap (λ v. length (f v)) same in
    omega (arith, length-append (f y) [], one)
length-flat_map-more f (y ∷ xs) (suc k) x at =
    let rest = length-flat_map-more f xs k x at in
    let next : suc k + 1 ≡ suc (k + 1) = omega arith in
    ap (λ n. length (flat_map f (take n (y ∷ xs)))) next
    ∙ omega (arith, length-append (f y) (flat_map f (take (k + 1) xs)), length-append (f y) (flat_map f (take k xs)), rest)

length-flat_map-grows : {X A : Type 0} (f : X → List A) (xs : List X) (a b : ℕ) → a ≤ b
    → length (flat_map f (take a xs)) ≤ length (flat_map f (take b xs))
length-flat_map-grows f [] zero zero h = omega arith
length-flat_map-grows f [] zero (suc b) h = omega arith
length-flat_map-grows f [] (suc a) zero h = omega arith
length-flat_map-grows f [] (suc a) (suc b) h = omega arith
length-flat_map-grows f (x ∷ xs) zero b h = omega arith
length-flat_map-grows f (x ∷ xs) (suc a) zero h = absurd (omega arith)
length-flat_map-grows f (x ∷ xs) (suc a) (suc b) h =
    let rest = length-flat_map-grows f xs a b (omega arith) in
    omega (arith, length-append (f x) (flat_map f (take a xs)), length-append (f x) (flat_map f (take b xs)), rest)

pub epochs_before-none : (job : JobSizes) → epochs_before job 0 ≡ 0
unfolding epochs_before
epochs_before-none job = refl

pub epochs_before-more : (job : JobSizes) (k : ℕ) (size : ScanSize) → slice_get job.scans k ≡ Some size
    → epochs_before job (k + 1) ≡ epochs_before job k + length (scan_epochs job k size)
unfolding epochs_before
epochs_before-more job k size at =
    let here : 0 + k ≡ k = omega arith in
    length-flat_map-more (λ (s : ℕ × ScanSize). scan_epochs job s.0 s.1) (enumerate_from 0 job.scans) k (k, size)
    (slice_get-enumerate 0 job.scans k size at ∙ ap (λ n. Some (n, size)) here)

pub epochs_before-grows : (job : JobSizes) (a b : ℕ) → a ≤ b → epochs_before job a ≤ epochs_before job b
unfolding epochs_before
epochs_before-grows job a b h =
    length-flat_map-grows (λ (s : ℕ × ScanSize). scan_epochs job s.0 s.1) (enumerate_from 0 job.scans) a b h

pub epochs_before-all : (job : JobSizes) → epochs_before job (length job.scans) ≡ length (epochs_of job)
unfolding epochs_before epochs_of
epochs_before-all job =
    ap (λ (xs : List (ℕ × ScanSize)). length (flat_map (λ (s : ℕ × ScanSize). scan_epochs job s.0 s.1) xs))
    (ap (λ n. take n (enumerate_from 0 job.scans)) (sym (length-enumerate_from 0 job.scans))
    ∙ take_all (length (enumerate_from 0 job.scans)) (enumerate_from 0 job.scans) (omega arith))

-- one scan's end more
pub AreEnds-more : (job : JobSizes) (ends : List ℕ) (i end : ℕ) → length ends ≡ i
    → ((k : ℕ) → k < length ends → get_or ends k 0 ≡ epochs_before job (k + 1))
    → end ≡ epochs_before job (i + 1)
    → (k : ℕ) → k < length (ends ++ end ∷ []) → get_or (ends ++ end ∷ []) k 0 ≡ epochs_before job (k + 1)
AreEnds-more job ends i end long each is k below =
    ⊎_elim
    (λ inside. get_or-append ends (end ∷ []) 0 k inside ∙ each k inside)
    (λ last.
    let count = length-append ends (end ∷ []) in
    let here : k ≡ i = omega (arith, count, long, last, below) in
    get_or_push ends end 0 k (omega (arith, long, here)) ∙ is ∙ ap (λ n. epochs_before job (n + 1)) (sym here))
    (cases_lt k (length ends))

pub ends-sorted : (job : JobSizes) (ends : List ℕ) → AreEnds job ends → IsNonDecreasingBy (λ (x : ℕ). x) ends
ends-sorted job ends are =
    IsNonDecreasingBy-from_default (λ (x : ℕ). x) ends 0
    (λ i j order below.
    let grows = epochs_before-grows job (i + 1) (j + 1) (omega arith) in
    let first = are.each i (omega arith) in
    let second = are.each j below in
    omega (arith, first, second, grows))

-- epoch j of a scan is that of the job behind the scans before it
pub slice_get-epochs_of : (job : JobSizes) (scan j : ℕ) (size : ScanSize) (e : EpochPlan) → slice_get job.scans scan ≡ Some size
    → slice_get (scan_epochs job scan size) j ≡ Some e
    → slice_get (epochs_of job) (epochs_before job scan + j) ≡ Some e
unfolding epochs_of epochs_before
slice_get-epochs_of job scan j size e at there =
    let here : 0 + scan ≡ scan = omega arith in
    slice_get-flat_map (λ (s : ℕ × ScanSize). scan_epochs job s.0 s.1) (enumerate_from 0 job.scans) scan j (scan, size) e
    (slice_get-enumerate 0 job.scans scan size at ∙ ap (λ n. Some (n, size)) here) there
