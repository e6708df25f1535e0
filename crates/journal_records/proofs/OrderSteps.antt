-- Where epochs in order stand to an integration: before its first sample, in it, or behind it.
use Rattle.std.specs.Prelude.{IfSome}
use Rattle.std.proofs.Common.{◌≡◌, ◌∙◌, sym, ap, refl, subst, ℕ, ◌+◌, ◌*◌, ◌<◌, ◌≤◌, drop, Option, Some, None, ⊎_elim, arith}
use Rattle.std.proofs.lemmas.Bool.{cases_lt}
use Rattle.piece_plan.specs.declared.epoch.EpochPlan.{EpochPlan}
use Rattle.piece_plan.specs.Epochs.{JobSizes, IsEpoch, integration_at}
use Rattle.piece_plan.specs.Order.{Place, place_of, place_after}
use Rattle.plan_places.specs.Places.{IsPlace, IsUpTo, IsBefore}
use Rattle.plan_places.specs.Search.{IsIn}
use Rattle.plan_places.proofs.Orders.{place-eq, before-up_to, up_to-or-before}
use Rattle.plan_places.proofs.FirstPlaces.{first_place-is}
use Rattle.plan_places.proofs.AfterLemmas.{after-integration, after-scan, after-before, in-epoch, some-IfSome}

-- a place behind an integration of the scan of a number
pub record IsPast (number m : ℕ) (p : Place) : Type 0 where
  pub scan : number ≤ p.scan
  pub later : number ≡ p.scan → m < p.m

-- the place after an epoch behind it
pub after-IsPast : (number m : ℕ) (job : JobSizes) (e : EpochPlan) → IsEpoch job e → IsPast number m (place_of e)
    → IfSome (place_after job e) (IsPast number m)
after-IsPast number m job e is past =
    some-IfSome (place_after job e) (IsPast number m)
    (λ q after.
    let before : IsBefore (place_of e) q = after-before job e q is after in
    record {
      scan = omega (arith, past.scan, before.scan);
      later = λ s.
          let same : e.scan ≡ q.scan = omega (arith, past.scan, before.scan, s) in
          let here : number ≡ e.scan = omega (arith, same, s) in
          omega (arith, past.later here, before.m same);
    })

-- the place after an epoch that ends its integration
pub end-IsPast : (job : JobSizes) (e : EpochPlan) → (is : IsEpoch job e) → (integration_at job is.size e.m).to ≤ e.to
    → IfSome (place_after job e) (IsPast e.scan e.m)
end-IsPast job e is end =
    some-IfSome (place_after job e) (IsPast e.scan e.m)
    (λ q after.
    ⊎_elim
    (λ inside.
    let both : ◌≡◌ {A = Option Place} (Some (record { scan = e.scan; m = e.m + 1; from = e.to })) (Some q) =
    sym (after-integration job e is.size is.scan end inside) ∙ after in
    let same : ◌≡◌ {A = Place} (record { scan = e.scan; m = e.m + 1; from = e.to }) q = cc in
    subst (IsPast e.scan e.m) same (record { scan = omega arith; later = λ s. omega arith }))
    (λ last.
    let first = first_place-is job.integration (e.scan + 1) (drop (e.scan + 1) job.scans) q (sym (after-scan job e is.size is.scan end last) ∙ after) in
    record { scan = omega (arith, first.scan); later = λ s. absurd (omega (arith, first.scan, s)) })
    (cases_lt e.to is.size.samples))

-- an epoch before an integration's first sample is of another one
pub before-other : (job : JobSizes) (e : EpochPlan) (p : Place) → IsEpoch job e → p.from ≡ p.m * job.integration
    → IsBefore (place_of e) p → e.scan ≡ p.scan → e.m ≡ p.m → ⊥
before-other job e p is begins before scan m =
    let times : e.m * job.integration ≡ p.m * job.integration = ap (λ (n : ℕ). n * job.integration) m in
    omega (arith, is.from, begins, times, before.from scan m)

-- the place after it is not behind that sample
pub before-goes_on : (job : JobSizes) (e : EpochPlan) (p : Place) → IsPlace job p → IsEpoch job e → p.from ≡ p.m * job.integration
    → IsBefore (place_of e) p → (q : Place) × (place_after job e ≡ Some q) × IsUpTo q p
before-goes_on job e p place is begins before = by (place_after job e) refl
  where
    up : IsUpTo (place_of e) p
    up = before-up_to (place_of e) p before

    not_in : IsIn p e → ⊥
    not_in inside = before-other job e p is begins before inside.scan inside.m

    by : (o : Option Place) → place_after job e ≡ o → (q : Place) × (place_after job e ≡ Some q) × IsUpTo q p
    by None after =
        absurd (not_in (in-epoch job p e place is up
        (λ q there.
        let both : ◌≡◌ {A = Option Place} None (Some q) = sym after ∙ there in
        absurd (cc))))
    by (Some q) after =
        ⊎_elim
        (λ (order : IsUpTo q p). (q, after, order))
        (λ (behind : IsBefore p q).
        absurd (not_in (in-epoch job p e place is up
        (λ r there.
        let both : ◌≡◌ {A = Option Place} (Some q) (Some r) = sym after ∙ there in
        let same : q ≡ r = cc in
        subst (IsBefore p) same behind))))
        (up_to-or-before q p)

-- of two places none of which is before the other
pub place-same : (p q : Place) → IsUpTo p q → IsUpTo q p → p ≡ q
place-same p q h k =
    let scan : p.scan ≡ q.scan = omega (arith, h.scan, k.scan) in
    let scan_back : q.scan ≡ p.scan = omega (arith, scan) in
    let m : p.m ≡ q.m = omega (arith, h.m scan, k.m scan_back) in
    let m_back : q.m ≡ p.m = omega (arith, m) in
    place-eq p q scan m (omega (arith, h.from scan m, k.from scan_back m_back))
