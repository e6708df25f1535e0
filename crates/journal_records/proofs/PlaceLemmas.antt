-- Where the epochs of scans and integrations begin.
use Rattle.std.specs.Prelude.{if◌then◌else◌, slice_get}
use Rattle.std.specs.Int.{div_ceil}
use Rattle.std.proofs.Common.{◌≡◌, ◌∙◌, sym, ap, refl, ℕ, zero, suc, ◌+◌, ◌*◌, ◌<◌, List, [], ◌∷◌, drop, Option, Some, ltb, ⊎_elim, arith}
use Rattle.std.proofs.lemmas.Bool.{cases_lt, cond-true, cond-false, lt-ltb, le-ltb}
use Rattle.piece_plan.specs.declared.job.ScanSize.{ScanSize}
use Rattle.piece_plan.specs.declared.epoch.EpochPlan.{EpochPlan}
use Rattle.piece_plan.specs.Epochs.{JobSizes, integration_at}
use Rattle.piece_plan.specs.Order.{Place, first_place, job_start, place_after}
use Rattle.piece_plan.proofs.Quotients.{ceil_covers}
use Rattle.plan_places.proofs.AfterLemmas.{after-is}
use Rattle.plan_places.proofs.FirstPlaces.{first_place-is}
use Rattle.journal_records.specs.Places.{place_of_scan, place_of_integration, place_from, IsIntegration}
use Rattle.journal_records.proofs.OrderLemmas.{IsPast}

-- the job's first place
pub place_of_scan-first : (job : JobSizes) → place_of_scan job 0 ≡ job_start job
unfolding place_of_scan
place_of_scan-first job = refl

drop-here : (scans : List ScanSize) (n : ℕ) (size : ScanSize) → slice_get scans n ≡ Some size → drop n scans ≡ size ∷ drop (n + 1) scans
drop-here [] n size at = absurd (cc)
drop-here (s ∷ scans) zero size at =
    let same : s ≡ size = cc in
    ap (λ (x : ScanSize). x ∷ scans) same
drop-here (s ∷ scans) (suc n) size at =
    let next : suc (n + 1) ≡ suc n + 1 = omega arith in
    drop-here scans n size at ∙ ap (λ k. size ∷ drop k (s ∷ scans)) next

-- a scan begins with its first integration
pub place_of_integration-first : (job : JobSizes) (number : ℕ) (size : ScanSize) → slice_get job.scans number ≡ Some size
    → place_of_integration job number size size.first ≡ place_of_scan job number
unfolding place_of_scan place_of_integration
place_of_integration-first job number size at = ap (first_place job.integration number) (sym (drop-here job.scans number size at))

-- behind the last integration the next scan begins
pub place_of_integration-last : (job : JobSizes) (number : ℕ) (size : ScanSize) (m : ℕ) → 0 < job.integration → m ≡ div_ceil size.samples job.integration
    → place_of_integration job number size m ≡ place_of_scan job (number + 1)
unfolding place_of_scan place_of_integration
place_of_integration-last job number size m some last =
    let times : m * job.integration ≡ div_ceil size.samples job.integration * job.integration = ap (λ n. n * job.integration) last in
    cond-false (ltb (m * job.integration) size.samples) _ _ (le-ltb _ _ (omega (arith, times, ceil_covers size.samples job.integration some)))

-- where an integration begins
pub place_from-begin : (job : JobSizes) (number : ℕ) (size : ScanSize) (m from to : ℕ) → IsIntegration job number size m from to
    → place_from job number size m from ≡ Some (record { scan = number; m = m; from = from })
unfolding place_from
place_from-begin job number size m from to is =
    cond-true (ltb from (integration_at job size m).to) _ _ (lt-ltb _ _ (omega (arith, is.some, is.ends)))

pub place_from-first : (job : JobSizes) (number : ℕ) (size : ScanSize) (m from to : ℕ) → IsIntegration job number size m from to
    → place_of_integration job number size m ≡ place_from job number size m from
unfolding place_of_integration
place_from-first job number size m from to is =
    let start : m * job.integration ≡ from = omega (arith, is.begins) in
    cond-true (ltb (m * job.integration) size.samples) _ _ (lt-ltb _ _ (omega (arith, is.begins, is.ends, is.some)))
    ∙ ap {B = Option Place} (λ n. Some (record { scan = number; m = m; from = n })) start
    ∙ sym (place_from-begin job number size m from to is)

-- and where it ends
pub place_from-end : (job : JobSizes) (number : ℕ) (size : ScanSize) (m to : ℕ) → to ≡ (integration_at job size m).to
    → place_from job number size m to ≡ place_of_integration job number size (m + 1)
unfolding place_from place_of_integration
place_from-end job number size m to ends =
    cond-false (ltb to (integration_at job size m).to) _ _ (le-ltb _ _ (omega (arith, ends)))
    ∙ ⊎_elim
    (λ inside.
    let same : to ≡ (m + 1) * job.integration = omega (arith, ends, inside) in
    cond-true (ltb to size.samples) _ _ (lt-ltb _ _ inside)
    ∙ ap {B = Option Place} (λ n. Some (record { scan = number; m = m + 1; from = n })) same
    ∙ sym (cond-true (ltb ((m + 1) * job.integration) size.samples) _ _ (lt-ltb _ _ (omega (arith, same, inside)))))
    (λ last.
    cond-false (ltb to size.samples) _ _ (le-ltb _ _ last)
    ∙ sym (cond-false (ltb ((m + 1) * job.integration) size.samples) _ _ (le-ltb _ _ (omega (arith, ends, last)))))
    (cases_lt to size.samples)

-- what is due at the end of an integration is behind it
pub place_from-past : (job : JobSizes) (number : ℕ) (size : ScanSize) (m to : ℕ) → to ≡ (integration_at job size m).to
    → (p : Place) → place_from job number size m to ≡ Some p → IsPast number m p
unfolding place_from
place_from-past job number size m to ends p due =
    let past = sym (cond-false (ltb to (integration_at job size m).to) _ _ (le-ltb _ _ (omega (arith, ends)))) ∙ due in
    ⊎_elim
    (λ inside.
    let both : ◌≡◌ {A = Option Place} (Some (record { scan = number; m = m + 1; from = to })) (Some p) =
    sym (cond-true (ltb to size.samples) _ _ (lt-ltb _ _ inside)) ∙ past in
    let same : ◌≡◌ {A = Place} (record { scan = number; m = m + 1; from = to }) p = cc in
    let scan : number ≡ p.scan = ap (λ (q : Place). q.scan) same in
    let later : m + 1 ≡ p.m = ap (λ (q : Place). q.m) same in
    record { scan = omega (arith, scan); later = λ s. omega (arith, later) })
    (λ last.
    let first = first_place-is job.integration (number + 1) (drop (number + 1) job.scans) p (sym (cond-false (ltb to size.samples) _ _ (le-ltb _ _ last)) ∙ past) in
    record { scan = omega (arith, first.scan); later = λ s. absurd (omega (arith, first.scan, s)) })
    (cases_lt to size.samples)

-- behind an epoch of the integration
pub place_from-after : (job : JobSizes) (number : ℕ) (size : ScanSize) (m : ℕ) (e : EpochPlan) → slice_get job.scans number ≡ Some size
    → e.scan ≡ number → e.m ≡ m → place_after job e ≡ place_from job number size m e.to
unfolding place_from
place_from-after job number size m e at scan same =
    let there : slice_get job.scans e.scan ≡ Some size = ap (slice_get job.scans) scan ∙ at in
    after-is job e size there
    ∙ (λ i. if ltb e.to (integration_at job size (same i)).to
    then Some (record { scan = scan i; m = same i; from = e.to })
    else
    (if ltb e.to size.samples
    then Some (record { scan = scan i; m = same i + 1; from = e.to })
    else first_place job.integration (scan i + 1) (drop (scan i + 1) job.scans)))
