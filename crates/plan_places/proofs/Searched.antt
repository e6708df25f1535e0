-- How many epochs begin at a place or before it, found by halves.
use Rattle.std.specs.Prelude.{slice_get}
use Rattle.std.specs.Bool.{MatchBool}
use Rattle.std.proofs.Common.{◌≡◌, ◌∙◌, sym, ap, ℕ, ◌+◌, ◌-◌, ◌*◌, ◌<◌, ◌≤◌, Bool, true, false, List, length, Option, Some, None, ⊎_elim, arith}
use Rattle.std.proofs.Math.Nat.{mul-le-mul_left}
use Rattle.std.proofs.lemmas.Bool.{cases_lt}
use Rattle.std.proofs.lemmas.Option.{slice_get_within}
use Rattle.piece_plan.specs.declared.epoch.EpochPlan.{EpochPlan}
use Rattle.piece_plan.specs.Epochs.{JobSizes, IsEpoch, integration_at, epochs_of}
use Rattle.piece_plan.specs.Order.{Place, place_of, job_start, place_after, AreInOrder, CoverJob}
use Rattle.plan_places.specs.Places.{IsPlace, IsUpTo, IsBefore}
use Rattle.plan_places.specs.Search.{begin_at, IsIn, IsCount, EndsIntegration, EndsScan}
use Rattle.plan_places.proofs.Orders.{up_to-trans, not-before, up_to-or-before, up_to-before, before-up_to-trans}
use Rattle.plan_places.proofs.AfterLemmas.{after-inside, after-integration, in-epoch, first-before}
use Rattle.plan_places.proofs.OrderedEpochs.{begin_at-some, order-first, order-at, order-le}

-- those below `low` do, and those from `high` on do not
pub record IsSearched (epochs : List EpochPlan) (p : Place) (low high : ℕ) : Type 0 where
  pub order : low ≤ high
  pub within : high ≤ length epochs
  pub up_to : (k : ℕ) (e : EpochPlan) → k < low → slice_get epochs k ≡ Some e → IsUpTo (place_of e) p
  pub above : (k : ℕ) (e : EpochPlan) → high ≤ k → slice_get epochs k ≡ Some e → IsBefore p (place_of e)

pub searched-none : (epochs : List EpochPlan) (p : Place) (high : ℕ) → high ≡ length epochs → IsSearched epochs p 0 high
searched-none epochs p high all = record {
  order = omega arith;
  within = omega (arith, all);
  up_to = λ k e below at. absurd (omega (arith, below));
  above = λ k e past at. absurd (omega (arith, past, all, slice_get_within epochs k e at));
}

pub searched-low : (job : JobSizes) (due : Option Place) (epochs : List EpochPlan) (p : Place) (low high middle : ℕ) (e : EpochPlan)
    → AreInOrder job due epochs None → IsSearched epochs p low high → middle < high → slice_get epochs middle ≡ Some e → IsUpTo (place_of e) p
    → IsSearched epochs p (middle + 1) high
searched-low job due epochs p low high middle e order h below at reached = record {
  order = omega (arith, below);
  within = h.within;
  up_to = λ k d less there.
      up_to-trans (place_of d) (place_of e) p (order-le job due epochs k middle d e order (omega (arith, less)) there at) reached;
  above = h.above;
}

pub searched-high : (job : JobSizes) (due : Option Place) (epochs : List EpochPlan) (p : Place) (low high middle : ℕ) (e : EpochPlan)
    → AreInOrder job due epochs None → IsSearched epochs p low high → low ≤ middle → middle < high → slice_get epochs middle ≡ Some e
    → IsBefore p (place_of e) → IsSearched epochs p low middle
searched-high job due epochs p low high middle e order h above below at past = record {
  order = above;
  within = omega (arith, h.within, below);
  up_to = h.up_to;
  above = λ k d more there.
      before-up_to-trans p (place_of e) (place_of d) past (order-le job due epochs middle k e d order more at there);
}

pub searched-IsCount : (epochs : List EpochPlan) (p : Place) (low high : ℕ) → IsSearched epochs p low high → high ≤ low → IsCount epochs p low
searched-IsCount epochs p low high h met = record {
  within = omega (arith, h.within, h.order);
  up_to = h.up_to;
  above = λ k e past at. h.above k e (omega (arith, past, met)) at;
}

-- a place of the job is not before the first epoch
pub count-some : (job : JobSizes) (p q : Place) (n : ℕ) → CoverJob job (epochs_of job) → IsPlace job p → IsUpTo p q
    → IsCount (epochs_of job) q n → 0 < n
count-some job p q n cover place le count =
    ⊎_elim
    (λ some. some)
    (λ none.
    let first = first-before job p place in
    let due : begin_at (epochs_of job) 0 ≡ Some first.0 = sym (order-first job (job_start job) (epochs_of job) cover) ∙ first.1 in
    let there = begin_at-some (epochs_of job) 0 first.0 due in
    let past = count.above 0 there.e (omega (arith, none)) there.at in
    let same : IsUpTo (place_of there.e) q = rw there.is (up_to-trans first.0 p q first.2 le) in
    absurd (not-before (place_of there.e) q same past))
    (cases_lt 0 n)

-- the last epoch that begins at a place of the job or before it has the place
pub count-IsIn : (job : JobSizes) (p : Place) (k n : ℕ) (e : EpochPlan) → CoverJob job (epochs_of job) → IsPlace job p
    → IsCount (epochs_of job) p n → n ≡ k + 1 → slice_get (epochs_of job) k ≡ Some e → IsIn p e
count-IsIn job p k n e cover place count next at =
    let follow = order-at job (job_start job) (epochs_of job) k e cover at in
    in-epoch job p e place follow.is (count.up_to k e (omega (arith, next)) at)
    (λ q after.
    let there = begin_at-some (epochs_of job) (k + 1) q (sym follow.next ∙ after) in
    let past = count.above (k + 1) there.e (omega (arith, next)) there.at in
    rw there.is at past)

pub IsIn-IsPlace : (job : JobSizes) (p : Place) (e : EpochPlan) → IsEpoch job e → e.scan ≡ p.scan → e.m ≡ p.m → e.from ≤ p.from → p.from < e.to → IsPlace job p
IsIn-IsPlace job p e is scan m from to =
    let times : e.m * job.integration ≡ p.m * job.integration = ap (λ n. n * job.integration) m in
    let more : (e.m + 1) * job.integration ≡ (p.m + 1) * job.integration = ap (λ n. (n + 1) * job.integration) m in
    record {
      size = is.size;
      scan = ap (slice_get job.scans) (sym scan) ∙ is.scan;
      first = omega (arith, is.begins, m);
      from = omega (arith, is.from, from, times);
      inside = omega (arith, is.to, to, more);
    }

-- what is known of the last epoch that begins at q or before it, where q is in the scan of a place p, or in its integration too
pub record IsLastTo (job : JobSizes) (p q : Place) (e : EpochPlan) : Type 0 where
  pub is : IsEpoch job e
  pub scan : e.scan ≡ p.scan
  pub m : q.m ≡ p.m → e.m ≡ p.m
  pub next : (r : Place) → place_after job e ≡ Some r → IsBefore q r

pub count-IsLastTo : (job : JobSizes) (p q : Place) (k n : ℕ) (e : EpochPlan) → CoverJob job (epochs_of job) → IsPlace job p
    → IsUpTo p q → q.scan ≡ p.scan → IsCount (epochs_of job) q n → n ≡ k + 1 → slice_get (epochs_of job) k ≡ Some e → IsLastTo job p q e
count-IsLastTo job p q k n e cover place le scan count next at =
    let follow = order-at job (job_start job) (epochs_of job) k e cover at in
    let reached : IsUpTo (place_of e) q = count.up_to k e (omega (arith, next)) at in
    let past : (r : Place) → place_after job e ≡ Some r → IsBefore q r =
    λ r after.
    let there = begin_at-some (epochs_of job) (k + 1) r (sym follow.next ∙ after) in
    let behind = count.above (k + 1) there.e (omega (arith, next)) there.at in
    rw there.is at behind in
    ⊎_elim
    (λ up.
    let inside = in-epoch job p e place follow.is up (λ r after. up_to-before p q r le (past r after)) in
    record { is = follow.is; scan = inside.scan; m = λ same. inside.m; next = past })
    (λ before.
    let same : e.scan ≡ p.scan = omega (arith, before.scan, reached.scan, scan) in
    let back : p.scan ≡ e.scan = omega (arith, same) in
    let on : e.scan ≡ q.scan = omega (arith, same, scan) in
    record { is = follow.is; scan = same; m = λ m. omega (arith, before.m back, reached.m on, m); next = past })
    (up_to-or-before (place_of e) p)

pub last-EndsIntegration : (job : JobSizes) (p q : Place) (e : EpochPlan) → IsLastTo job p q e → q.scan ≡ p.scan → q.m ≡ p.m → e.to ≤ q.from
    → EndsIntegration job p e
last-EndsIntegration job p q e last scan m long =
    let here : e.m ≡ p.m = last.m m in
    let times : (e.m + 1) * job.integration ≡ (p.m + 1) * job.integration = ap (λ n. (n + 1) * job.integration) here in
    ⊎_elim
    (λ inside.
    let before = last.next _ (after-inside job e last.is.size last.is.scan inside) in
    let one : q.scan ≡ e.scan = omega (arith, scan, last.scan) in
    let two : q.m ≡ e.m = omega (arith, m, here) in
    absurd (omega (arith, before.from one two, long)))
    (λ end.
    record { is = last.is; scan = last.scan; m = here; to = omega (arith, end, last.is.to, times) })
    (cases_lt e.to (integration_at job last.is.size e.m).to)

-- an integration begins no earlier than its number
m-bound : (job : JobSizes) (e : EpochPlan) → IsEpoch job e → e.m ≤ e.from
m-bound job e is =
    ⊎_elim
    (λ some.
    let step : e.m * 1 ≤ e.m * job.integration = mul-le-mul_left e.m some in
    omega (arith, step, is.from))
    (λ none.
    let zero : job.integration ≡ 0 = omega (arith, none) in
    let end : (e.m + 1) * job.integration ≡ (e.m + 1) * 0 = ap (λ n. (e.m + 1) * n) zero in
    absurd (omega (arith, is.to, is.some, end)))
    (cases_lt 0 job.integration)

pub last-EndsScan : (job : JobSizes) (p q : Place) (e : EpochPlan) → IsLastTo job p q e → q.scan ≡ p.scan → e.to < q.m → e.to ≤ q.from
    → EndsScan job p e
last-EndsScan job p q e last scan few long =
    let bound = m-bound job e last.is in
    let one : q.scan ≡ e.scan = omega (arith, scan, last.scan) in
    ⊎_elim
    (λ inside.
    let before = last.next _ (after-inside job e last.is.size last.is.scan inside) in
    absurd (omega (arith, before.m one, bound, few, last.is.some)))
    (λ end.
    ⊎_elim
    (λ inside.
    let before = last.next _ (after-integration job e last.is.size last.is.scan end inside) in
    absurd (omega (arith, before.m one, bound, few, last.is.some)))
    (λ whole. record { is = last.is; scan = last.scan; to = omega (arith, whole, last.is.to) })
    (cases_lt e.to last.is.size.samples))
    (cases_lt e.to (integration_at job last.is.size e.m).to)

-- whether the last epoch that begins there or before has it says whether it is a place
pub count-IsPlace : (job : JobSizes) (p : Place) (n : ℕ) (e : EpochPlan) (has : Bool) → CoverJob job (epochs_of job)
    → IsCount (epochs_of job) p n → (n ≡ 0 → ⊥) → slice_get (epochs_of job) (n - 1) ≡ Some e → IsEpoch job e
    → MatchBool has (IsIn p e) (IsIn p e → ⊥) → MatchBool has (IsPlace job p) (IsPlace job p → ⊥)
count-IsPlace job p n e true cover count some at is h =
    let next : n ≡ n - 1 + 1 = omega (arith, some) in
    let begun = count.up_to (n - 1) e (omega (arith, next)) at in
    let back : e.m ≡ p.m = h.m in
    IsIn-IsPlace job p e is h.scan h.m (begun.from h.scan back) h.to
count-IsPlace job p n e false cover count some at is h =
    λ place.
    let next : n ≡ n - 1 + 1 = omega (arith, some) in
    h (count-IsIn job p (n - 1) n e cover place count next at)

-- the last epoch up to q, by its number
pub last-IsLastTo : (job : JobSizes) (p q : Place) (n : ℕ) (e : EpochPlan) → CoverJob job (epochs_of job) → IsPlace job p
    → IsUpTo p q → q.scan ≡ p.scan → IsCount (epochs_of job) q n → slice_get (epochs_of job) (n - 1) ≡ Some e → IsLastTo job p q e
last-IsLastTo job p q n e cover place le scan count at =
    let some = count-some job p q n cover place le count in
    count-IsLastTo job p q (n - 1) n e cover place le scan count (omega (arith, some)) at

pub last-within : (job : JobSizes) (p q : Place) (n : ℕ) → CoverJob job (epochs_of job) → IsPlace job p
    → IsUpTo p q → IsCount (epochs_of job) q n → n - 1 < length (epochs_of job)
last-within job p q n cover place le count =
    let some = count-some job p q n cover place le count in
    omega (arith, some, count.within)

pub epoch-next : (job : JobSizes) (i : ℕ) (e : EpochPlan) → CoverJob job (epochs_of job) → slice_get (epochs_of job) i ≡ Some e
    → place_after job e ≡ begin_at (epochs_of job) (i + 1)
epoch-next job i e cover at =
    let follow = order-at job (job_start job) (epochs_of job) i e cover at in
    follow.next
