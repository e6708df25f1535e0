-- The epochs of a job are the walk with the job's own epoch length.
use Rattle.std.specs.Prelude.{slice_get, flat_map}
use Rattle.std.specs.List.{range_with_len, enumerate_from}
use Rattle.std.proofs.Common.{◌≡◌, ◌∙◌, sym, ap, refl, subst, ℕ, zero, suc, ◌+◌, ◌-◌, ◌*◌, min, List, [], ◌∷◌, ◌++◌, length, map, Option, Some, None, arith}
use Rattle.std.proofs.lemmas.List.{length-append, append_assoc}
use Rattle.piece_plan.specs.declared.job.ScanSize.{ScanSize}
use Rattle.piece_plan.specs.declared.epoch.EpochPlan.{EpochPlan}
use Rattle.piece_plan.specs.Parts.{part_at, part_count, parts}
use Rattle.piece_plan.specs.Epochs.{JobSizes, IsJob, IsEpoch, range_of, integration_at, integration_count, integration_epochs, scan_epochs, epochs_of}
use Rattle.piece_plan.specs.Order.{Place, place_of, job_start, place_after, AreInOrder}
use Rattle.piece_plan.proofs.ListPlaces.{slice_get-right}
use Rattle.piece_plan.proofs.WalkLemmas.{epochs-CoverJob}
use Rattle.plan_places.specs.Places.{IsPlace, IsUpTo}
use Rattle.plan_places.specs.Search.{IsIn}
use Rattle.plan_places.specs.Walk.{cut_at, next_epoch, IsWalk}
use Rattle.plan_places.proofs.CutLemmas.{cut_of, cut-is, size-same}
use Rattle.plan_places.proofs.WalkLemmas.{walk-first}

-- each epoch is the one that is cut from where it begins
abbrev AreCut : JobSizes → List EpochPlan → Type 0
AreCut job [] = Unit {0}
AreCut job (e ∷ epochs) =
    ((size : ScanSize) → slice_get job.scans e.scan ≡ Some size → cut_of job job.epoch (place_of e) size ≡ e) × AreCut job epochs

AreCut-append : (job : JobSizes) (xs ys : List EpochPlan) → AreCut job xs → AreCut job ys → AreCut job (xs ++ ys)
AreCut-append job [] ys h k = k
AreCut-append job (x ∷ xs) ys h k = (h.0, AreCut-append job xs ys h.1 k)

part-cut : (job : JobSizes) (number : ℕ) (size other : ScanSize) (m k : ℕ) → slice_get job.scans number ≡ Some size → slice_get job.scans number ≡ Some other
    → cut_of job job.epoch (place_of (range_of job number size m (part_at (integration_at job size m).from (integration_at job size m).to job.epoch k))) other
    ≡ range_of job number size m (part_at (integration_at job size m).from (integration_at job size m).to job.epoch k)
part-cut job number size other m k at there =
    let both : ◌≡◌ {A = Option ScanSize} (Some other) (Some size) = sym there ∙ at in
    let same : other ≡ size = cc in
    let to : min ((integration_at job size m).from + k * job.epoch + job.epoch) (integration_at job size m).to
    ≡ min ((integration_at job size m).from + (k + 1) * job.epoch) (integration_at job size m).to =
    ap (λ n. min n (integration_at job size m).to) (omega arith) in
    ap (λ s. cut_of job job.epoch (place_of (range_of job number size m (part_at (integration_at job size m).from (integration_at job size m).to job.epoch k))) s) same
    ∙ ap (λ n. range_of job number size m (record { from = (integration_at job size m).from + k * job.epoch; to = n })) to

parts-AreCut : (job : JobSizes) (number : ℕ) (size : ScanSize) (m k n : ℕ) → slice_get job.scans number ≡ Some size
    → AreCut job (map (range_of job number size m) (map (part_at (integration_at job size m).from (integration_at job size m).to job.epoch) (range_with_len k n)))
parts-AreCut job number size m k zero at = tt
parts-AreCut job number size m k (suc n) at =
    ((λ other there. part-cut job number size other m k at there), parts-AreCut job number size m (k + 1) n at)

integration-AreCut : (job : JobSizes) (number : ℕ) (size : ScanSize) (m : ℕ) → slice_get job.scans number ≡ Some size
    → AreCut job (integration_epochs job number size m)
unfolding integration_epochs parts
integration-AreCut job number size m at =
    parts-AreCut job number size m 0 (part_count (integration_at job size m).from (integration_at job size m).to job.epoch) at

integrations-AreCut : (job : JobSizes) (number : ℕ) (size : ScanSize) (m n : ℕ) → slice_get job.scans number ≡ Some size
    → AreCut job (flat_map (integration_epochs job number size) (range_with_len m n))
integrations-AreCut job number size m zero at = tt
integrations-AreCut job number size m (suc n) at =
    AreCut-append job (integration_epochs job number size m) (flat_map (integration_epochs job number size) (range_with_len (m + 1) n))
    (integration-AreCut job number size m at) (integrations-AreCut job number size (m + 1) n at)

scan-AreCut : (job : JobSizes) (number : ℕ) (size : ScanSize) → slice_get job.scans number ≡ Some size → AreCut job (scan_epochs job number size)
unfolding scan_epochs
scan-AreCut job number size at = integrations-AreCut job number size size.first (integration_count job size) at

scans-AreCut : (job : JobSizes) (number : ℕ) (front rest : List ScanSize) → job.scans ≡ front ++ rest → number ≡ length front
    → AreCut job (flat_map (λ (s : ℕ × ScanSize). scan_epochs job s.0 s.1) (enumerate_from number rest))
scans-AreCut job number front [] scans count = tt
scans-AreCut job number front (size ∷ rest) scans count =
    let first : length front + 0 ≡ number = omega (arith, count) in
    let at : slice_get job.scans number ≡ Some size =
    ap (slice_get job.scans) (sym first) ∙ ap (λ xs. slice_get xs (length front + 0)) scans ∙ slice_get-right front (size ∷ rest) 0 in
    AreCut-append job (scan_epochs job number size) (flat_map (λ (s : ℕ × ScanSize). scan_epochs job s.0 s.1) (enumerate_from (number + 1) rest))
    (scan-AreCut job number size at)
    (scans-AreCut job (number + 1) (front ++ size ∷ []) rest (scans ∙ sym (append_assoc front (size ∷ []) rest)) (omega (arith, length-append front (size ∷ []), count)))

job-AreCut : (job : JobSizes) → AreCut job (epochs_of job)
unfolding epochs_of
job-AreCut job = scans-AreCut job 0 [] job.scans refl refl

cut-IsWalk : (job : JobSizes) (due : Option Place) (epochs : List EpochPlan) → AreInOrder job due epochs None → AreCut job epochs
    → IsWalk job job.epoch due epochs
cut-IsWalk job due [] order cut = order
cut-IsWalk job due (e ∷ epochs) order cut = (
  ap (next_epoch job job.epoch) order.0 ∙ cut-is job job.epoch (place_of e) order.1.size order.1.scan ∙ ap Some (cut.0 order.1.size order.1.scan),
  cut-IsWalk job (place_after job e) epochs order.2 cut.1,
)

pub epochs-IsWalk : (job : JobSizes) → IsJob job → IsWalk job job.epoch (job_start job) (epochs_of job)
epochs-IsWalk job is = cut-IsWalk job (job_start job) (epochs_of job) (epochs-CoverJob job is) (job-AreCut job)

AreCut-at : (job : JobSizes) (epochs : List EpochPlan) (k : ℕ) (e : EpochPlan) (size : ScanSize) → AreCut job epochs → slice_get epochs k ≡ Some e
    → slice_get job.scans e.scan ≡ Some size → cut_of job job.epoch (place_of e) size ≡ e
AreCut-at job [] k e size cut at there = absurd (cc)
AreCut-at job (d ∷ epochs) zero e size cut at there =
    let same : d ≡ e = cc in
    subst (λ (x : EpochPlan). cut_of job job.epoch (place_of x) size ≡ x) same (cut.0 size (rw same there))
AreCut-at job (d ∷ epochs) (suc k) e size cut at there = AreCut-at job epochs k e size cut.1 at there

-- an epoch of the job is the one that is cut from where it begins
pub epoch-cut : (job : JobSizes) (k : ℕ) (e : EpochPlan) → IsEpoch job e → slice_get (epochs_of job) k ≡ Some e
    → cut_at job job.epoch (place_of e) ≡ Some e
epoch-cut job k e is at =
    cut-is job job.epoch (place_of e) is.size is.scan ∙ ap Some (AreCut-at job (epochs_of job) k e is.size (job-AreCut job) at is.scan)

-- from a place in such an epoch on, the number of its samples gives what the job's own number gives
pub cut-in-own : (job : JobSizes) (p : Place) (e : EpochPlan) → IsPlace job p → IsEpoch job e → cut_at job job.epoch (place_of e) ≡ Some e
    → IsUpTo (place_of e) p → IsIn p e → cut_at job (e.to - e.from) p ≡ cut_at job job.epoch p
cut-in-own job p e place is own le has =
    let size = size-same job p e place is has.scan in
    let samples : is.size.samples ≡ place.size.samples = ap (λ (s : ScanSize). s.samples) size in
    let begun = le.from has.scan has.m in
    let times : (e.m + 1) * job.integration ≡ (p.m + 1) * job.integration = ap (λ n. (n + 1) * job.integration) has.m in
    let first = walk-first job job.epoch (place_of e) is.size e is.scan own in
    let to : min (e.from + job.epoch) (integration_at job is.size e.m).to ≡ e.to = ap (λ (x : EpochPlan). x.to) first in
    let end : min (p.from + (e.to - e.from)) (integration_at job place.size p.m).to ≡ min (p.from + job.epoch) (integration_at job place.size p.m).to =
    omega (arith, to, samples, times, begun, is.some) in
    cut-is job (e.to - e.from) p place.size place.scan
    ∙ ap {B = Option EpochPlan} (λ n. Some (range_of job p.scan place.size p.m (record { from = p.from; to = n }))) end
    ∙ sym (cut-is job job.epoch p place.size place.scan)
