-- Epochs in order, and which of them are of an integration.
use Rattle.std.specs.Prelude.{◌==◌, ◌&&◌, true, false}
use Rattle.std.proofs.Common.{◌≡◌, ◌≢◌, ap, subst, ℕ, ◌*◌, ◌<◌, ◌≤◌, List, [], ◌∷◌, ◌++◌, Option, Some, ⊎_elim, arith}
use Rattle.std.proofs.lemmas.Bool.{cases_lt}
use Rattle.std.proofs.lemmas.Bool.Decides.{nat_tests}
use Rattle.piece_plan.specs.declared.epoch.EpochPlan.{EpochPlan}
use Rattle.piece_plan.specs.Epochs.{JobSizes}
use Rattle.piece_plan.specs.Order.{Place, place_of, place_after, AreInOrder}
use Rattle.plan_places.specs.Places.{IsUpTo, IsBefore}
use Rattle.plan_places.proofs.Orders.{up_to-refl, before-up_to, before-up_to-trans}
use Rattle.plan_places.proofs.AfterLemmas.{after-before}
use Rattle.job_epochs.specs.Added.{is_of}

-- the epochs behind some that are in order
pub order-cut : (job : JobSizes) (due mid end : Option Place) (xs ys : List EpochPlan) → AreInOrder job due (xs ++ ys) end
    → AreInOrder job due xs mid → AreInOrder job mid ys end
order-cut job due mid end [] ys all front = subst (λ (o : Option Place). AreInOrder job o ys end) front all
order-cut job due mid end (e ∷ xs) ys all front = order-cut job (place_after job e) mid end xs ys all.2 front.2

-- epochs none of which is of integration m of the scan of a number
abbrev pub AreOther : ℕ → ℕ → List EpochPlan → Type 0
AreOther number m [] = Unit {0}
AreOther number m (e ∷ epochs) = (is_of number m e ≡ false) × AreOther number m epochs

pub is_of-same : (number m : ℕ) (e : EpochPlan) → e.scan ≡ number → e.m ≡ m → is_of number m e ≡ true
is_of-same number m e scan same = grind (arith, nat_tests)

other_scan : (number m k j : ℕ) → k ≢ number → ((k == number) && (j == m)) ≡ false
other_scan number m k j other = grind (arith, nat_tests)

other_m : (number m k j : ℕ) → j ≢ m → ((k == number) && (j == m)) ≡ false
other_m number m k j other = grind (arith, nat_tests)

is_of-other : (number m : ℕ) (e : EpochPlan) → (e.scan ≡ number → e.m ≢ m) → is_of number m e ≡ false
is_of-other number m e other =
    ⊎_elim
    (λ less. other_scan number m e.scan e.m (omega (arith, less)))
    (λ ge.
    ⊎_elim
    (λ more. other_scan number m e.scan e.m (omega (arith, more)))
    (λ le. other_m number m e.scan e.m (other (omega (arith, ge, le))))
    (cases_lt number e.scan))
    (cases_lt e.scan number)

-- where the first of some epochs begins that go up to a place
record Begins (o : Option Place) (p : Place) : Type 0 where
  q : Place
  is : o ≡ Some q
  up_to : IsUpTo q p

begins : (job : JobSizes) (o : Option Place) (epochs : List EpochPlan) (p : Place) → AreInOrder job o epochs (Some p) → Begins o p
begins job o [] p h = record { q = p; is = h; up_to = up_to-refl p }
begins job o (e ∷ epochs) p h =
    let rest = begins job (place_after job e) epochs p h.2 in
    record {
      q = place_of e;
      is = h.0;
      up_to = before-up_to (place_of e) p (before-up_to-trans (place_of e) rest.q p (after-before job e rest.q h.1 rest.is) rest.up_to);
    }

-- those before an integration are of another
pub AreOther-before : (job : JobSizes) (number m : ℕ) (o : Option Place) (epochs : List EpochPlan) (p : Place)
    → p.scan ≡ number → p.m ≡ m → p.from ≡ m * job.integration → AreInOrder job o epochs (Some p) → AreOther number m epochs
AreOther-before job number m o [] p scan same from h = tt
AreOther-before job number m o (e ∷ epochs) p scan same from h =
    let rest = begins job (place_after job e) epochs p h.2 in
    let before : IsBefore (place_of e) p = before-up_to-trans (place_of e) rest.q p (after-before job e rest.q h.1 rest.is) rest.up_to in
    let other : e.scan ≡ number → e.m ≢ m = λ (s : e.scan ≡ number) (t : e.m ≡ m).
    let there : e.scan ≡ p.scan = omega (arith, s, scan) in
    let here : e.m ≡ p.m = omega (arith, t, same) in
    let times : e.m * job.integration ≡ m * job.integration = ap (λ n. n * job.integration) t in
    omega (arith, before.from there here, h.1.from, from, times) in
    (is_of-other number m e other, AreOther-before job number m (place_after job e) epochs p scan same from h.2)

-- a place behind an integration
pub record IsPast (number m : ℕ) (p : Place) : Type 0 where
  pub scan : number ≤ p.scan
  pub later : p.scan ≡ number → m < p.m

-- and those from such a place on
pub AreOther-behind : (job : JobSizes) (number m : ℕ) (o end : Option Place) (epochs : List EpochPlan)
    → ((p : Place) → o ≡ Some p → IsPast number m p) → AreInOrder job o epochs end → AreOther number m epochs
AreOther-behind job number m o end [] past h = tt
AreOther-behind job number m o end (e ∷ epochs) past h =
    let here = past (place_of e) h.0 in
    let other : e.scan ≡ number → e.m ≢ m = λ (s : e.scan ≡ number) (t : e.m ≡ m). omega (arith, here.later s, t) in (
      is_of-other number m e other,
      AreOther-behind job number m (place_after job e) end epochs
          (λ p next.
          let before = after-before job e p h.1 next in
          record {
            scan = omega (arith, here.scan, before.scan);
            later = λ s.
                let there : e.scan ≡ number = omega (arith, here.scan, before.scan, s) in
                let same : e.scan ≡ p.scan = omega (arith, there, s) in
                omega (arith, here.later there, before.m same);
          }) h.2,
    )
