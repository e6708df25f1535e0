-- The epochs of a job in order: those of an integration, of a scan, of the job.
use Rattle.std.specs.Prelude.{slice_get, flat_map, nat_lt, if◌then◌else◌}
use Rattle.std.specs.Int.{div_ceil}
use Rattle.std.specs.List.{range_with_len, enumerate_from}
use Rattle.std.proofs.Common.{◌≡◌, ◌∙◌, sym, ap, refl, subst, ℕ, zero, suc, ◌+◌, ◌-◌, ◌*◌, ◌<◌, ◌≤◌, length, map, drop, List, [], ◌∷◌, ◌++◌, Option, Some, None, ltb, arith}
use Rattle.std.proofs.Math.Seq.{drop-append-add}
use Rattle.std.proofs.lemmas.Bool.{cond-true, cond-false, lt-ltb, le-ltb}
use Rattle.std.proofs.lemmas.List.{length-append, append_assoc}
use Rattle.piece_plan.specs.declared.job.ScanSize.{ScanSize}
use Rattle.piece_plan.specs.declared.epoch.EpochPlan.{EpochPlan}
use Rattle.piece_plan.specs.Parts.{Range, part_at, part_count, parts, GoThrough}
use Rattle.piece_plan.specs.Epochs.{JobSizes, IsJob, IsEpoch, range_of, integration_at, integration_count, integration_epochs, ranges_of, scan_epochs, epochs_of}
use Rattle.piece_plan.specs.Order.{Place, first_place, place_in, place_after, AreInOrder, CoverJob}
use Rattle.piece_plan.proofs.Quotients.{below_ceil, ceil_above, ceil_covers}
use Rattle.piece_plan.proofs.ListPlaces.{slice_get-right}
use Rattle.piece_plan.proofs.PartLemmas.{parts-GoThrough}
use Rattle.piece_plan.proofs.RangeLemmas.{range-IsEpoch}

pub AreInOrder-append : (job : JobSizes) (a b c : Option Place) (xs ys : List EpochPlan) → AreInOrder job a xs b → AreInOrder job b ys c
    → AreInOrder job a (xs ++ ys) c
AreInOrder-append job a b c [] ys h k = subst (λ (p : Option Place). AreInOrder job p ys c) (sym h) k
AreInOrder-append job a b c (x ∷ xs) ys h k = (h.0, h.1, AreInOrder-append job (place_after job x) b c xs ys h.2 k)

pub AreInOrder-end : (job : JobSizes) (a b c : Option Place) (xs : List EpochPlan) → AreInOrder job a xs b → b ≡ c → AreInOrder job a xs c
AreInOrder-end job a b c [] h k = h ∙ k
AreInOrder-end job a b c (x ∷ xs) h k = (h.0, h.1, AreInOrder-end job (place_after job x) b c xs h.2 k)

same_place : (scan m from from' : ℕ) → from ≡ from'
    → ◌≡◌ {A = Option Place} (Some (record { scan = scan; m = m; from = from })) (Some (record { scan = scan; m = m; from = from' }))
same_place scan m from from' p = ap (λ n. Some (record { scan = scan; m = m; from = n })) p

-- the place after an epoch of a scan
place_after-is : (job : JobSizes) (e : EpochPlan) (size : ScanSize) → slice_get job.scans e.scan ≡ Some size
    → place_after job e ≡ place_in job e (Some size)
unfolding place_after
place_after-is job e size at = ap (place_in job e) at

place_after-inside : (job : JobSizes) (e : EpochPlan) (size : ScanSize) → slice_get job.scans e.scan ≡ Some size
    → e.to < (integration_at job size e.m).to → place_after job e ≡ Some (record { scan = e.scan; m = e.m; from = e.to })
place_after-inside job e size at inside =
    place_after-is job e size at ∙ cond-true (ltb e.to (integration_at job size e.m).to) _ _ (lt-ltb _ _ inside)

-- the place after integration m
pub next_place : JobSizes → ℕ → ScanSize → ℕ → Option Place
next_place job number size m =
    if nat_lt (integration_at job size m).to size.samples
    then Some (record { scan = number; m = m + 1; from = (integration_at job size m).to })
    else first_place job.integration (number + 1) (drop (number + 1) job.scans)

place_after-end : (job : JobSizes) (number m from to products baselines lags : ℕ) (size : ScanSize) → slice_get job.scans number ≡ Some size
    → to ≡ (integration_at job size m).to
    → place_after job (record { scan = number; m = m; from = from; to = to; products = products; baselines = baselines; lags = lags }) ≡ next_place job number size m
unfolding next_place
place_after-end job number m from to products baselines lags size at end =
    let e : EpochPlan = record { scan = number; m = m; from = from; to = to; products = products; baselines = baselines; lags = lags } in
    place_after-is job e size at
    ∙ cond-false (ltb to (integration_at job size m).to) _ _ (le-ltb _ _ (omega (arith, end)))
    ∙ ap (λ n. if nat_lt n size.samples then Some (record { scan = number; m = m + 1; from = n }) else first_place job.integration (number + 1) (drop (number + 1) job.scans)) end

part-IsEpoch : (job : JobSizes) (number : ℕ) (size : ScanSize) (m k : ℕ) → IsJob job → slice_get job.scans number ≡ Some size → size.first ≤ m
    → k * job.epoch < (integration_at job size m).to - (integration_at job size m).from
    → IsEpoch job (range_of job number size m (part_at (integration_at job size m).from (integration_at job size m).to job.epoch k))
part-IsEpoch job number size m k is at begins begun =
    range-IsEpoch job number size m _ _ at begins (omega arith) (omega (arith, begun, is.epoch)) (omega arith) (omega (arith, is.short))

-- the epochs of an integration from the k-th on
rest-AreInOrder : (job : JobSizes) (number : ℕ) (size : ScanSize) (m k n : ℕ) → IsJob job → slice_get job.scans number ≡ Some size → size.first ≤ m
    → k + suc n ≡ part_count (integration_at job size m).from (integration_at job size m).to job.epoch
    → AreInOrder job (Some (record { scan = number; m = m; from = (integration_at job size m).from + k * job.epoch }))
    (map (range_of job number size m) (map (part_at (integration_at job size m).from (integration_at job size m).to job.epoch) (range_with_len k (suc n))))
    (next_place job number size m)
rest-AreInOrder job number size m k zero is at begins count =
    let long : ℕ = (integration_at job size m).to - (integration_at job size m).from in
    let begun : k * job.epoch < (integration_at job size m).to - (integration_at job size m).from =
    below_ceil ((integration_at job size m).to - (integration_at job size m).from) job.epoch k is.epoch (omega (arith, count)) in
    let covers = ceil_covers ((integration_at job size m).to - (integration_at job size m).from) job.epoch is.epoch in
    let last : div_ceil ((integration_at job size m).to - (integration_at job size m).from) job.epoch ≡ k + 1 = omega (arith, count) in
    let times : div_ceil ((integration_at job size m).to - (integration_at job size m).from) job.epoch * job.epoch ≡ (k + 1) * job.epoch = ap (λ (c : ℕ). c * job.epoch) last in (
      refl,
      part-IsEpoch job number size m k is at begins begun,
      place_after-end job number m _ _ _ _ _ size at (omega (arith, covers, times, begun)),
    )
rest-AreInOrder job number size m k (suc n) is at begins count =
    let begun : k * job.epoch < (integration_at job size m).to - (integration_at job size m).from =
    below_ceil ((integration_at job size m).to - (integration_at job size m).from) job.epoch k is.epoch (omega (arith, count)) in
    let next : (k + 1) * job.epoch < (integration_at job size m).to - (integration_at job size m).from =
    below_ceil ((integration_at job size m).to - (integration_at job size m).from) job.epoch (k + 1) is.epoch (omega (arith, count)) in
    let e : EpochPlan = range_of job number size m (part_at (integration_at job size m).from (integration_at job size m).to job.epoch k) in
    let after : place_after job e ≡ Some (record { scan = number; m = m; from = (integration_at job size m).from + (k + 1) * job.epoch }) =
    place_after-inside job e size at (omega (arith, next)) ∙ same_place number m _ _ (omega (arith, next)) in
    let rest = rest-AreInOrder job number size m (k + 1) n is at begins (omega (arith, count)) in (
      refl,
      part-IsEpoch job number size m k is at begins begun,
      subst (λ (p : Option Place). AreInOrder job p
          (map (range_of job number size m) (map (part_at (integration_at job size m).from (integration_at job size m).to job.epoch) (range_with_len (k + 1) (suc n))))
          (next_place job number size m)) (sym after) rest,
    )

counted-AreInOrder : (job : JobSizes) (number : ℕ) (size : ScanSize) (m n : ℕ) → IsJob job → slice_get job.scans number ≡ Some size → size.first ≤ m
    → (integration_at job size m).from < (integration_at job size m).to
    → n ≡ part_count (integration_at job size m).from (integration_at job size m).to job.epoch
    → AreInOrder job (Some (record { scan = number; m = m; from = (integration_at job size m).from }))
    (map (range_of job number size m) (map (part_at (integration_at job size m).from (integration_at job size m).to job.epoch) (range_with_len 0 n)))
    (next_place job number size m)
counted-AreInOrder job number size m zero is at begins some count =
    let one = ceil_above ((integration_at job size m).to - (integration_at job size m).from) job.epoch 0 is.epoch (omega (arith, some)) in
    absurd (omega (arith, one, count))
counted-AreInOrder job number size m (suc n) is at begins some count =
    let here : (integration_at job size m).from + 0 * job.epoch ≡ (integration_at job size m).from = omega arith in
    subst (λ (from : ℕ). AreInOrder job (Some (record { scan = number; m = m; from = from }))
    (map (range_of job number size m) (map (part_at (integration_at job size m).from (integration_at job size m).to job.epoch) (range_with_len 0 (suc n))))
    (next_place job number size m)) here
    (rest-AreInOrder job number size m 0 n is at begins (omega (arith, count)))

integration-AreInOrder : (job : JobSizes) (number : ℕ) (size : ScanSize) (m : ℕ) → IsJob job → slice_get job.scans number ≡ Some size → size.first ≤ m
    → m * job.integration < size.samples
    → AreInOrder job (Some (record { scan = number; m = m; from = 0 + m * job.integration })) (integration_epochs job number size m) (next_place job number size m)
unfolding integration_epochs parts
integration-AreInOrder job number size m is at begins begun =
    counted-AreInOrder job number size m (part_count (integration_at job size m).from (integration_at job size m).to job.epoch) is at begins
    (omega (arith, begun, is.integration)) refl

-- integration m is the k-th of the scan that belongs to the job
begun-at : (samples first integration m k : ℕ) → m ≡ first + k → k * integration < samples - first * integration → m * integration < samples
begun-at samples first integration m k is begun =
    let start : m * integration ≡ (first + k) * integration = ap (λ (n : ℕ). n * integration) is in
    omega (arith, start, begun)

-- the epochs of a scan from integration m on, the k-th that belongs to the job
integrations-AreInOrder : (job : JobSizes) (number : ℕ) (size : ScanSize) (m k n : ℕ) → IsJob job → slice_get job.scans number ≡ Some size
    → m ≡ size.first + k → k + suc n ≡ div_ceil (size.samples - size.first * job.integration) job.integration
    → AreInOrder job (Some (record { scan = number; m = m; from = 0 + m * job.integration }))
    (flat_map (integration_epochs job number size) (range_with_len m (suc n)))
    (first_place job.integration (number + 1) (drop (number + 1) job.scans))
unfolding next_place
integrations-AreInOrder job number size m k zero is at place count =
    let inside = below_ceil (size.samples - size.first * job.integration) job.integration k is.integration (omega (arith, count)) in
    let begun = begun-at size.samples size.first job.integration m k place inside in
    let covers = ceil_covers (size.samples - size.first * job.integration) job.integration is.integration in
    let last : div_ceil (size.samples - size.first * job.integration) job.integration ≡ k + 1 = omega (arith, count) in
    let times : div_ceil (size.samples - size.first * job.integration) job.integration * job.integration ≡ (k + 1) * job.integration =
    ap (λ (c : ℕ). c * job.integration) last in
    let start : m * job.integration ≡ (size.first + k) * job.integration = ap (λ (c : ℕ). c * job.integration) place in
    AreInOrder-append job _ _ _ (integration_epochs job number size m) []
    (integration-AreInOrder job number size m is at (omega (arith, place)) begun)
    (cond-false (ltb (integration_at job size m).to size.samples) _ _ (le-ltb _ _ (omega (arith, covers, times, start))))
integrations-AreInOrder job number size m k (suc n) is at place count =
    let inside = below_ceil (size.samples - size.first * job.integration) job.integration k is.integration (omega (arith, count)) in
    let begun = begun-at size.samples size.first job.integration m k place inside in
    let later : m + 1 ≡ size.first + (k + 1) = omega (arith, place) in
    let next_inside = below_ceil (size.samples - size.first * job.integration) job.integration (k + 1) is.integration (omega (arith, count)) in
    let next = begun-at size.samples size.first job.integration (m + 1) (k + 1) later next_inside in
    let after : next_place job number size m ≡ Some (record { scan = number; m = m + 1; from = 0 + (m + 1) * job.integration }) =
    cond-true (ltb (integration_at job size m).to size.samples) _ _ (lt-ltb _ _ (omega (arith, next)))
    ∙ same_place number (m + 1) _ _ (omega (arith, next)) in
    AreInOrder-append job _ _ _ (integration_epochs job number size m) (flat_map (integration_epochs job number size) (range_with_len (m + 1) (suc n)))
    (AreInOrder-end job _ _ _ (integration_epochs job number size m)
    (integration-AreInOrder job number size m is at (omega (arith, place)) begun) after)
    (integrations-AreInOrder job number size (m + 1) (k + 1) n is at later (omega (arith, count)))

-- the first place of a scan, or of those after it
abbrev scan_start : JobSizes → ℕ → ScanSize → List ScanSize → Option Place
scan_start job number size scans =
    if nat_lt (size.first * job.integration) size.samples
    then Some (record { scan = number; m = size.first; from = size.first * job.integration })
    else first_place job.integration (number + 1) scans

-- the epochs of a scan, whose integrations are counted
scan-AreInOrder : (job : JobSizes) (number : ℕ) (size : ScanSize) (n : ℕ) → IsJob job → slice_get job.scans number ≡ Some size
    → n ≡ div_ceil (size.samples - size.first * job.integration) job.integration
    → AreInOrder job (scan_start job number size (drop (number + 1) job.scans))
    (flat_map (integration_epochs job number size) (range_with_len size.first n))
    (first_place job.integration (number + 1) (drop (number + 1) job.scans))
scan-AreInOrder job number size zero is at count =
    let covers = ceil_covers (size.samples - size.first * job.integration) job.integration is.integration in
    let times : div_ceil (size.samples - size.first * job.integration) job.integration * job.integration ≡ 0 * job.integration =
    ap (λ (c : ℕ). c * job.integration) (sym count) in
    cond-false (ltb (size.first * job.integration) size.samples) _ _ (le-ltb _ _ (omega (arith, covers, times)))
scan-AreInOrder job number size (suc n) is at count =
    let begun = below_ceil (size.samples - size.first * job.integration) job.integration 0 is.integration (omega (arith, count)) in
    let some : size.first * job.integration < size.samples = omega (arith, begun) in
    let walk = integrations-AreInOrder job number size size.first 0 n is at (omega arith) (omega (arith, count)) in
    let here : scan_start job number size (drop (number + 1) job.scans)
    ≡ Some (record { scan = number; m = size.first; from = 0 + size.first * job.integration }) =
    cond-true (ltb (size.first * job.integration) size.samples) _ _ (lt-ltb _ _ some) ∙ same_place number size.first _ _ (omega arith) in
    subst (λ (p : Option Place). AreInOrder job p (flat_map (integration_epochs job number size) (range_with_len size.first (suc n)))
    (first_place job.integration (number + 1) (drop (number + 1) job.scans)))
    (sym here) walk

-- the scans after some others
scans-AreInOrder : (job : JobSizes) (number : ℕ) (front rest : List ScanSize) → IsJob job → job.scans ≡ front ++ rest → number ≡ length front
    → AreInOrder job (first_place job.integration number rest) (flat_map (λ (s : ℕ × ScanSize). scan_epochs job s.0 s.1) (enumerate_from number rest)) None
unfolding scan_epochs
scans-AreInOrder job number front [] is scans count = refl
scans-AreInOrder job number front (size ∷ rest) is scans count =
    let first : length front + 0 ≡ number = omega (arith, count) in
    let at : slice_get job.scans number ≡ Some size =
    ap (slice_get job.scans) (sym first) ∙ ap (λ xs. slice_get xs (length front + 0)) scans ∙ slice_get-right front (size ∷ rest) 0 in
    let left : drop (number + 1) job.scans ≡ rest =
    ap (λ n. drop (n + 1) job.scans) count ∙ ap (drop (length front + 1)) scans ∙ drop-append-add front (size ∷ rest) 1 in
    let walk = scan-AreInOrder job number size (integration_count job size) is at refl in
    let here = subst (λ xs. AreInOrder job (scan_start job number size xs)
    (flat_map (integration_epochs job number size) (range_with_len size.first (integration_count job size)))
    (first_place job.integration (number + 1) xs)) left walk in
    let later = scans-AreInOrder job (number + 1) (front ++ size ∷ []) rest is
    (scans ∙ sym (append_assoc front (size ∷ []) rest)) (omega (arith, length-append front (size ∷ []), count)) in
    AreInOrder-append job _ _ _
    (flat_map (integration_epochs job number size) (range_with_len size.first (integration_count job size)))
    (flat_map (λ (s : ℕ × ScanSize). scan_epochs job s.0 s.1) (enumerate_from (number + 1) rest)) here later

pub epochs-CoverJob : (job : JobSizes) → IsJob job → CoverJob job (epochs_of job)
unfolding epochs_of
epochs-CoverJob job is = scans-AreInOrder job 0 [] job.scans is refl refl

ranges-back : (job : JobSizes) (number m : ℕ) (size : ScanSize) (ranges : List Range) → ranges_of (map (range_of job number size m) ranges) ≡ ranges
ranges-back job number m size [] = refl
ranges-back job number m size (r ∷ ranges) = ap (λ (rs : List Range). r ∷ rs) (ranges-back job number m size ranges)

pub integration_epochs-GoThrough : (job : JobSizes) (number m : ℕ) (size : ScanSize) → IsJob job → size.first ≤ m
    → m < size.first + integration_count job size
    → GoThrough (integration_at job size m).from (integration_at job size m).to (ranges_of (integration_epochs job number size m))
unfolding integration_epochs
integration_epochs-GoThrough job number m size is begins inside =
    let place : m ≡ size.first + (m - size.first) = omega (arith, begins) in
    let count : m - size.first < div_ceil (size.samples - size.first * job.integration) job.integration = omega (arith, begins, inside) in
    let begun = begun-at size.samples size.first job.integration m (m - size.first) place
    (below_ceil (size.samples - size.first * job.integration) job.integration (m - size.first) is.integration count) in
    rw (ranges-back job number m size (parts (integration_at job size m).from (integration_at job size m).to job.epoch))
    (parts-GoThrough (integration_at job size m).from (integration_at job size m).to job.epoch (omega (arith, begun)) is.epoch)
