-- The place after an epoch.
use Rattle.std.specs.Prelude.{slice_get, IfSome}
use Rattle.std.proofs.Common.{◌≡◌, ◌∙◌, sym, ap, refl, subst, ℕ, ◌+◌, ◌-◌, ◌*◌, ◌<◌, ◌≤◌, drop, Option, Some, None, ltb, ⊎_elim, arith}
use Rattle.std.proofs.Math.Nat.{mul-le-mul_left}
use Rattle.std.proofs.lemmas.Bool.{cases_lt, cond-true, cond-false, lt-ltb, le-ltb}
use Rattle.piece_plan.specs.declared.job.ScanSize.{ScanSize}
use Rattle.piece_plan.specs.declared.epoch.EpochPlan.{EpochPlan}
use Rattle.piece_plan.specs.Epochs.{JobSizes, IsJob, IsEpoch, integration_at}
use Rattle.piece_plan.specs.Order.{Place, place_of, first_place, job_start, place_in, place_after}
use Rattle.plan_places.specs.Places.{IsPlace, IsUpTo, IsBefore}
use Rattle.plan_places.specs.Search.{IsIn}
use Rattle.plan_places.proofs.Orders.{not-before, place-eq}
use Rattle.plan_places.proofs.FirstPlaces.{slice_get-drop, begin_of, IsFirst, first_place-is, first_place-reaches}

pub after-is : (job : JobSizes) (e : EpochPlan) (size : ScanSize) → slice_get job.scans e.scan ≡ Some size
    → place_after job e ≡ place_in job e (Some size)
unfolding place_after
after-is job e size at = ap (place_in job e) at

pub after-inside : (job : JobSizes) (e : EpochPlan) (size : ScanSize) → slice_get job.scans e.scan ≡ Some size
    → e.to < (integration_at job size e.m).to → place_after job e ≡ Some (record { scan = e.scan; m = e.m; from = e.to })
after-inside job e size at inside =
    after-is job e size at ∙ cond-true (ltb e.to (integration_at job size e.m).to) _ _ (lt-ltb _ _ inside)

pub after-integration : (job : JobSizes) (e : EpochPlan) (size : ScanSize) → slice_get job.scans e.scan ≡ Some size
    → (integration_at job size e.m).to ≤ e.to → e.to < size.samples
    → place_after job e ≡ Some (record { scan = e.scan; m = e.m + 1; from = e.to })
after-integration job e size at end inside =
    after-is job e size at ∙ cond-false (ltb e.to (integration_at job size e.m).to) _ _ (le-ltb _ _ end)
    ∙ cond-true (ltb e.to size.samples) _ _ (lt-ltb _ _ inside)

pub after-scan : (job : JobSizes) (e : EpochPlan) (size : ScanSize) → slice_get job.scans e.scan ≡ Some size
    → (integration_at job size e.m).to ≤ e.to → size.samples ≤ e.to
    → place_after job e ≡ first_place job.integration (e.scan + 1) (drop (e.scan + 1) job.scans)
after-scan job e size at end last =
    after-is job e size at ∙ cond-false (ltb e.to (integration_at job size e.m).to) _ _ (le-ltb _ _ end)
    ∙ cond-false (ltb e.to size.samples) _ _ (le-ltb _ _ last)

-- behind the end of a scan it is the first of the later ones
pub first-later : (job : JobSizes) (e : EpochPlan) (q : Place) (is : IsEpoch job e) → (integration_at job is.size e.m).to ≤ e.to
    → is.size.samples ≤ e.to → place_after job e ≡ Some q → IsFirst job.integration (e.scan + 1) (drop (e.scan + 1) job.scans) q
first-later job e q is end last after =
    first_place-is job.integration (e.scan + 1) (drop (e.scan + 1) job.scans) q (sym (after-scan job e is.size is.scan end last) ∙ after)

same_some : (P : Place → Type 0) (o : Option Place) (p q : Place) → o ≡ Some p → o ≡ Some q → P p → P q
same_some P o p q a b h =
    let both : ◌≡◌ {A = Option Place} (Some p) (Some q) = sym a ∙ b in
    let same : p ≡ q = cc in
    subst P same h

-- it is where the epoch ends, in its integration or in the next one, or the first place of a later scan
pub after-cases : (job : JobSizes) (e : EpochPlan) (q : Place) (P : Place → Type 0) → IsEpoch job e → place_after job e ≡ Some q
    → P (record { scan = e.scan; m = e.m; from = e.to }) → P (record { scan = e.scan; m = e.m + 1; from = e.to })
    → (IsFirst job.integration (e.scan + 1) (drop (e.scan + 1) job.scans) q → P q) → P q
after-cases job e q P is after here next later =
    ⊎_elim
    (λ inside. same_some P (place_after job e) _ q (after-inside job e is.size is.scan inside) after here)
    (λ end.
    ⊎_elim
    (λ inside. same_some P (place_after job e) _ q (after-integration job e is.size is.scan end inside) after next)
    (λ last. later (first-later job e q is end last after))
    (cases_lt e.to is.size.samples))
    (cases_lt e.to (integration_at job is.size e.m).to)

-- it is behind the epoch's begin
pub after-before : (job : JobSizes) (e : EpochPlan) (q : Place) → IsEpoch job e → place_after job e ≡ Some q → IsBefore (place_of e) q
after-before job e q is after =
    after-cases job e q (IsBefore (place_of e)) is after
    (record { scan = omega arith; m = λ s. omega arith; from = λ s t. is.some })
    (record { scan = omega arith; m = λ s. omega arith; from = λ s t. is.some })
    (λ first. record {
      scan = omega (arith, first.scan);
      m = λ s. absurd (omega (arith, first.scan, s));
      from = λ s t. absurd (omega (arith, first.scan, s));
    })

pub same_size : (job : JobSizes) (p : Place) (e : EpochPlan) (place : IsPlace job p) (is : IsEpoch job e) → e.scan ≡ p.scan → place.size ≡ is.size
same_size job p e place is scan =
    let other : slice_get job.scans p.scan ≡ Some is.size = ap (slice_get job.scans) (sym scan) ∙ is.scan in
    let both : ◌≡◌ {A = Option ScanSize} (Some place.size) (Some is.size) = sym place.scan ∙ other in
    cc

-- the size of a place's scan
place-size : (job : JobSizes) (p : Place) (place : IsPlace job p) (k : ℕ) (size : ScanSize) → slice_get job.scans k ≡ Some size → k ≡ p.scan
    → place.size ≡ size
place-size job p place k size at same =
    let both : ◌≡◌ {A = Option ScanSize} (Some place.size) (Some size) = sym place.scan ∙ ap (slice_get job.scans) (sym same) ∙ at in
    cc

-- before the place after it that is in the same scan
in-inside : (job : JobSizes) (p : Place) (e : EpochPlan) → IsPlace job p → IsEpoch job e → IsUpTo (place_of e) p
    → IsBefore p (record { scan = e.scan; m = e.m; from = e.to }) → IsIn p e
in-inside job p e place is begun before =
    let scan : e.scan ≡ p.scan = omega (arith, begun.scan, before.scan) in
    let back : p.scan ≡ e.scan = omega (arith, scan) in
    let m : e.m ≡ p.m = omega (arith, begun.m scan, before.m back) in
    let m_back : p.m ≡ e.m = omega (arith, m) in
    record { scan = scan; m = m; to = before.from back m_back }

in-integration : (job : JobSizes) (p : Place) (e : EpochPlan) → IsPlace job p → (is : IsEpoch job e) → IsUpTo (place_of e) p
    → (integration_at job is.size e.m).to ≤ e.to
    → IsBefore p (record { scan = e.scan; m = e.m + 1; from = e.to }) → IsIn p e
in-integration job p e place is begun end before =
    let scan : e.scan ≡ p.scan = omega (arith, begun.scan, before.scan) in
    let back : p.scan ≡ e.scan = omega (arith, scan) in
    let size = same_size job p e place is scan in
    let samples : place.size.samples ≡ is.size.samples = ap (λ (s : ScanSize). s.samples) size in
    ⊎_elim
    (λ less.
    let m : e.m ≡ p.m = omega (arith, begun.m scan, less) in
    let times : p.m * job.integration ≡ e.m * job.integration = ap (λ n. n * job.integration) (sym m) in
    record { scan = scan; m = m; to = omega (arith, place.inside, samples, end, times) })
    (λ past.
    let m : p.m ≡ e.m + 1 = omega (arith, before.m back, past) in
    let from = before.from back m in
    let times : p.m * job.integration ≡ (e.m + 1) * job.integration = ap (λ n. n * job.integration) m in
    absurd (omega (arith, place.from, is.to, from, times)))
    (cases_lt p.m (e.m + 1))

-- where an integration begins, and those before it
times-le : (job : JobSizes) (m n : ℕ) → m ≤ n → m * job.integration ≤ n * job.integration
times-le job m n le =
    let step : job.integration * m ≤ job.integration * n = mul-le-mul_left job.integration le in
    omega (arith, step)

-- a scan with a place has a sample
place-some : (job : JobSizes) (p : Place) (place : IsPlace job p) → place.size.first * job.integration < place.size.samples
place-some job p place = omega (arith, times-le job place.size.first p.m place.first, place.from, place.inside)

-- a place of a scan is not before the scan's first sample
place-begun : (job : JobSizes) (p : Place) (place : IsPlace job p) (k : ℕ) (size : ScanSize) → k ≤ p.scan
    → (k ≡ p.scan → place.size ≡ size) → IsUpTo (begin_of job.integration k size) p
place-begun job p place k size le same = record {
  scan = le;
  m = λ s. omega (arith, ap (λ (x : ScanSize). x.first) (same s), place.first);
  from = λ s t. omega (arith, ap (λ n. n * job.integration) t, place.from);
}

-- at the end of a scan
in-scan : (job : JobSizes) (p : Place) (e : EpochPlan) → IsPlace job p → (is : IsEpoch job e) → IsUpTo (place_of e) p
    → is.size.samples ≤ e.to
    → ((q : Place) → first_place job.integration (e.scan + 1) (drop (e.scan + 1) job.scans) ≡ Some q → IsBefore p q) → IsIn p e
in-scan job p e place is begun last before =
    ⊎_elim
    (λ later.
    let count : e.scan + 1 + (p.scan - (e.scan + 1)) ≡ p.scan = omega (arith, later) in
    let at : slice_get (drop (e.scan + 1) job.scans) (p.scan - (e.scan + 1)) ≡ Some place.size =
    slice_get-drop (e.scan + 1) job.scans (p.scan - (e.scan + 1)) ∙ ap (slice_get job.scans) count ∙ place.scan in
    let reached = first_place-reaches job.integration (e.scan + 1) (drop (e.scan + 1) job.scans) (p.scan - (e.scan + 1)) place.size at (place-some job p place) in
    let there : slice_get job.scans (e.scan + 1 + reached.j) ≡ Some reached.size =
    sym (slice_get-drop (e.scan + 1) job.scans reached.j) ∙ reached.at in
    let begun = place-begun job p place (e.scan + 1 + reached.j) reached.size (omega (arith, reached.within, count)) (place-size job p place _ _ there) in
    absurd (not-before _ p begun (before _ reached.is)))
    (λ same.
    let scan : e.scan ≡ p.scan = omega (arith, begun.scan, same) in
    let size = same_size job p e place is scan in
    let samples : place.size.samples ≡ is.size.samples = ap (λ (s : ScanSize). s.samples) size in
    let inside : p.from < e.to = omega (arith, place.inside, samples, last) in
    ⊎_elim
    (λ more.
    let step : job.integration * (e.m + 1) ≤ job.integration * p.m = mul-le-mul_left job.integration (omega (arith, more)) in
    absurd (omega (arith, step, place.from, is.to, inside)))
    (λ less.
    record { scan = scan; m = omega (arith, begun.m scan, less); to = inside })
    (cases_lt e.m p.m))
    (cases_lt e.scan p.scan)

-- a place that is not before an epoch's begin, and before the place after it, is in the epoch
pub in-epoch : (job : JobSizes) (p : Place) (e : EpochPlan) → IsPlace job p → IsEpoch job e → IsUpTo (place_of e) p
    → ((q : Place) → place_after job e ≡ Some q → IsBefore p q) → IsIn p e
in-epoch job p e place is begun before =
    ⊎_elim
    (λ inside. in-inside job p e place is begun (before _ (after-inside job e is.size is.scan inside)))
    (λ end.
    ⊎_elim
    (λ inside. in-integration job p e place is begun end (before _ (after-integration job e is.size is.scan end inside)))
    (λ last. in-scan job p e place is begun last (λ q first. before q (after-scan job e is.size is.scan end last ∙ first)))
    (cases_lt e.to is.size.samples))
    (cases_lt e.to (integration_at job is.size e.m).to)

-- some place of the job is not before its first
pub first-before : (job : JobSizes) (p : Place) → IsPlace job p → (q : Place) × (job_start job ≡ Some q) × IsUpTo q p
first-before job p place =
    let reached = first_place-reaches job.integration 0 job.scans p.scan place.size place.scan (place-some job p place) in
    let count : reached.j ≡ 0 + reached.j = omega arith in
    let at : slice_get job.scans (0 + reached.j) ≡ Some reached.size = ap (slice_get job.scans) (sym count) ∙ reached.at in (
      begin_of job.integration (0 + reached.j) reached.size,
      reached.is,
      place-begun job p place (0 + reached.j) reached.size (omega (arith, reached.within)) (place-size job p place _ _ at),
    )

begin-IsPlace : (job : JobSizes) (k : ℕ) (size : ScanSize) → IsJob job → slice_get job.scans k ≡ Some size
    → size.first * job.integration < size.samples → IsPlace job (begin_of job.integration k size)
begin-IsPlace job k size is at some =
    let next : (size.first + 1) * job.integration ≡ size.first * job.integration + job.integration = omega arith in
    record {
      size = size;
      scan = at;
      first = omega arith;
      from = omega arith;
      inside = omega (arith, is.integration, some, next);
    }

pub first-IsPlace : (job : JobSizes) (n : ℕ) (p : Place) → IsJob job → first_place job.integration n (drop n job.scans) ≡ Some p → IsPlace job p
first-IsPlace job n p is first =
    let there = first_place-is job.integration n (drop n job.scans) p first in
    let at : slice_get job.scans (n + there.k) ≡ Some there.size = sym (slice_get-drop n job.scans there.k) ∙ there.at in
    let same : begin_of job.integration (n + there.k) there.size ≡ p = place-eq _ _ (sym there.scan) (sym there.m) (sym there.from) in
    subst (λ (q : Place). IsPlace job q) same (begin-IsPlace job (n + there.k) there.size is at there.some)

pub begin_of-IsPlace : (job : JobSizes) (e : EpochPlan) → IsEpoch job e → IsPlace job (place_of e)
begin_of-IsPlace job e is = record {
  size = is.size;
  scan = is.scan;
  first = is.begins;
  from = is.from;
  inside = omega (arith, is.some, is.to);
}

-- where it ends, in its integration
pub end-IsPlace : (job : JobSizes) (e : EpochPlan) → (is : IsEpoch job e) → e.to < (integration_at job is.size e.m).to
    → IsPlace job (record { scan = e.scan; m = e.m; from = e.to })
end-IsPlace job e is inside = record {
  size = is.size;
  scan = is.scan;
  first = is.begins;
  from = omega (arith, is.from, is.some);
  inside = inside;
}

-- where an integration ends, in the next one
pub next-IsPlace : (job : JobSizes) (scan m to : ℕ) (size : ScanSize) → slice_get job.scans scan ≡ Some size → size.first ≤ m → 1 ≤ job.integration
    → to ≡ (integration_at job size m).to → to < size.samples → IsPlace job (record { scan = scan; m = m + 1; from = to })
next-IsPlace job scan m to size at begins whole end inside =
    let here : to ≡ (m + 1) * job.integration = omega (arith, end, inside) in
    let next : (m + 1 + 1) * job.integration ≡ (m + 1) * job.integration + job.integration = omega arith in
    record {
      size = size;
      scan = at;
      first = omega (arith, begins);
      from = omega (arith, here);
      inside = omega (arith, here, next, inside, whole);
    }

pub some-IfSome : {A : Type 0} (o : Option A) (P : A → Type 0) → ((x : A) → o ≡ Some x → P x) → IfSome o P
some-IfSome None P h = tt
some-IfSome (Some x) P h = h x refl

pub after-IsPlace : (job : JobSizes) (e : EpochPlan) → IsJob job → IsEpoch job e → IfSome (place_after job e) (IsPlace job)
after-IsPlace job e job_is is =
    ⊎_elim
    (λ inside. subst (λ (o : Option Place). IfSome o (IsPlace job)) (sym (after-inside job e is.size is.scan inside)) (end-IsPlace job e is inside))
    (λ end.
    ⊎_elim
    (λ inside. subst (λ (o : Option Place). IfSome o (IsPlace job)) (sym (after-integration job e is.size is.scan end inside)) (next-IsPlace job e.scan e.m e.to is.size is.scan is.begins job_is.integration (omega (arith, end, is.to)) inside))
    (λ last. subst (λ (o : Option Place). IfSome o (IsPlace job)) (sym (after-scan job e is.size is.scan end last))
    (some-IfSome _ (IsPlace job) (λ p first. first-IsPlace job (e.scan + 1) p job_is first)))
    (cases_lt e.to is.size.samples))
    (cases_lt e.to (integration_at job is.size e.m).to)

-- it is the same after epochs that end at one sample
pub after-same : (job : JobSizes) (e d : EpochPlan) (size : ScanSize) → slice_get job.scans e.scan ≡ Some size
    → e.scan ≡ d.scan → e.m ≡ d.m → e.to ≡ d.to → place_after job e ≡ place_after job d
after-same job e d size at a b c =
    after-is job e size at
    ∙ (λ i. place_in job (record {
      scan = a i;
      m = b i;
      from = e.from;
      to = c i;
      products = e.products;
      baselines = e.baselines;
      lags = e.lags;
    }) (Some size))
    ∙ sym (after-is job d size (ap (slice_get job.scans) (sym a) ∙ at))
