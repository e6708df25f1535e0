-- Epochs of any length: they are the walk from a job's start, and from no place are more of them left.
use Rattle.std.specs.Prelude.{slice_get, IfSome}
use Rattle.std.proofs.Common.{◌≡◌, ◌∙◌, sym, ap, refl, subst, ℕ, ◌+◌, ◌*◌, ◌≤◌, min, List, [], ◌∷◌, length, Option, Some, None, ◌⊎◌, inl, inr, ⊎_elim, arith}
use Rattle.std.proofs.lemmas.Bool.{cases_lt}
use Rattle.piece_plan.specs.declared.job.ScanSize.{ScanSize}
use Rattle.piece_plan.specs.declared.epoch.EpochPlan.{EpochPlan}
use Rattle.piece_plan.specs.Epochs.{JobSizes, IsJob, IsEpoch, integration_at}
use Rattle.piece_plan.specs.Order.{Place, place_of, job_start, place_in, place_after}
use Rattle.plan_places.specs.Places.{IsPlace, IsUpTo, IsBefore}
use Rattle.plan_places.specs.Search.{IsIn}
use Rattle.plan_places.specs.Walk.{cut_in, cut_at, next_epoch, IsWalk, AreLeft, epochs_by}
use Rattle.plan_places.proofs.Orders.{up_to-refl, up_to-or-before}
use Rattle.plan_places.proofs.AfterLemmas.{after-inside, after-integration, first-later, after-same, after-IsPlace, in-epoch, first-before}
use Rattle.plan_places.proofs.CutLemmas.{cut-IsEpoch, same-sizes}
use Rattle.plan_places.proofs.WalkLemmas.{walk-first}
use Rattle.plan_places.proofs.WholeWalks.{first-IfSome}
use Rattle.plan_places.proofs.OwnWalk.{epochs-IsWalk}

-- a walk does not look at the job's own epoch length
cut_in-by : (job : JobSizes) (n epoch : ℕ) (p : Place) (o : Option ScanSize)
    → cut_in (record job { epoch = n }) p epoch o ≡ cut_in job p epoch o
cut_in-by job n epoch p None = refl
cut_in-by job n epoch p (Some size) = refl

next-by : (job : JobSizes) (n epoch : ℕ) (due : Option Place)
    → next_epoch (record job { epoch = n }) epoch due ≡ next_epoch job epoch due
unfolding cut_at
next-by job n epoch None = refl
next-by job n epoch (Some p) = cut_in-by job n epoch p (slice_get job.scans p.scan)

place_in-by : (job : JobSizes) (n : ℕ) (e : EpochPlan) (o : Option ScanSize) → place_in (record job { epoch = n }) e o ≡ place_in job e o
place_in-by job n e None = refl
place_in-by job n e (Some size) = refl

after-by : (job : JobSizes) (n : ℕ) (e : EpochPlan) → place_after (record job { epoch = n }) e ≡ place_after job e
unfolding place_after
after-by job n e = place_in-by job n e (slice_get job.scans e.scan)

walk-by-length : (job : JobSizes) (n epoch : ℕ) (due : Option Place) (epochs : List EpochPlan)
    → IsWalk (record job { epoch = n }) epoch due epochs → IsWalk job epoch due epochs
walk-by-length job n epoch due [] walk = walk
walk-by-length job n epoch due (e ∷ epochs) walk = (
  sym (next-by job n epoch due) ∙ walk.0,
  walk-by-length job n epoch (place_after job e) epochs
      (subst (λ (o : Option Place). IsWalk (record job { epoch = n }) epoch o epochs) (after-by job n e) walk.1),
)

pub IsJob-by : (job : JobSizes) (epoch : ℕ) → IsJob job → 1 ≤ epoch → epoch ≤ 4194304 → IsJob (record job { epoch = epoch })
IsJob-by job epoch is some short = record {
  many = is.many;
  scans = is.scans;
  integration = is.integration;
  longest = is.longest;
  epoch = some;
  short = short;
  lags = is.lags;
}

pub epochs_by-IsWalk : (job : JobSizes) (epoch : ℕ) → IsJob job → 1 ≤ epoch → epoch ≤ 4194304
    → IsWalk job epoch (job_start job) (epochs_by job epoch)
epochs_by-IsWalk job epoch is some short =
    walk-by-length job epoch epoch (job_start job) (epochs_by job epoch) (epochs-IsWalk (record job { epoch = epoch }) (IsJob-by job epoch is some short))

-- a walk stands no later than another one
abbrev Leads : Option Place → Option Place → Type 0
Leads due other = (q : Place) → other ≡ Some q → (p : Place) × (due ≡ Some p) × IsUpTo p q

-- of two epochs of an integration, behind the one that ends no later a walk stands no later
after-Leads : (job : JobSizes) (e f : EpochPlan) → IsEpoch job e → IsEpoch job f → e.scan ≡ f.scan → e.m ≡ f.m → e.to ≤ f.to
    → Leads (place_after job e) (place_after job f)
after-Leads job e f is other scan m to q after =
    let size = same-sizes job e f is other scan in
    let samples : is.size.samples ≡ other.size.samples = ap (λ (s : ScanSize). s.samples) size in
    let times : (e.m + 1) * job.integration ≡ (f.m + 1) * job.integration = ap (λ n. (n + 1) * job.integration) m in
    ⊎_elim
    (λ inside.
    let there = after-inside job e is.size is.scan inside in
    ⊎_elim
    (λ within.
    let both : ◌≡◌ {A = Option Place} (Some (record { scan = f.scan; m = f.m; from = f.to })) (Some q) =
    sym (after-inside job f other.size other.scan within) ∙ after in
    let same : ◌≡◌ {A = Place} (record { scan = f.scan; m = f.m; from = f.to }) q = cc in (
      record { scan = e.scan; m = e.m; from = e.to },
      there,
      subst (λ (p : Place). IsUpTo (record { scan = e.scan; m = e.m; from = e.to }) p) same
          (record { scan = omega (arith, scan); m = λ s. omega (arith, m); from = λ s t. to }),
    ))
    (λ end.
    ⊎_elim
    (λ more.
    let both : ◌≡◌ {A = Option Place} (Some (record { scan = f.scan; m = f.m + 1; from = f.to })) (Some q) =
    sym (after-integration job f other.size other.scan end more) ∙ after in
    let same : ◌≡◌ {A = Place} (record { scan = f.scan; m = f.m + 1; from = f.to }) q = cc in (
      record { scan = e.scan; m = e.m; from = e.to },
      there,
      subst (λ (p : Place). IsUpTo (record { scan = e.scan; m = e.m; from = e.to }) p) same
          (record { scan = omega (arith, scan); m = λ s. omega (arith, m); from = λ s t. to }),
    ))
    (λ last.
    let first = first-later job f q other end last after in (
      record { scan = e.scan; m = e.m; from = e.to },
      there,
      record {
        scan = omega (arith, first.scan, scan);
        m = λ s. absurd (omega (arith, first.scan, scan, s));
        from = λ s t. absurd (omega (arith, first.scan, scan, s));
      },
    ))
    (cases_lt f.to other.size.samples))
    (cases_lt f.to (integration_at job other.size f.m).to))
    (λ end.
    let same : e.to ≡ f.to = omega (arith, end, to, other.to, samples, times) in
    (q, after-same job e f is.size is.scan scan m same ∙ after, up_to-refl q))
    (cases_lt e.to (integration_at job is.size e.m).to)

-- where a place stands that is not before an epoch's begin: in the epoch, or not before the place after it
in-or-after : (job : JobSizes) (q : Place) (e : EpochPlan) (o : Option Place) → IsPlace job q → IsEpoch job e → IsUpTo (place_of e) q
    → place_after job e ≡ o → IsIn q e ⊎ Leads o (Some q)
in-or-after job q e None place is le after =
    inl (in-epoch job q e place is le (λ r there. absurd (cc (after, there))))
in-or-after job q e (Some r) place is le after =
    ⊎_elim
    (λ up. inr (λ x there.
    let same : q ≡ x = cc in
    (r, refl, subst (λ (y : Place). IsUpTo r y) same up)))
    (λ before. inl (in-epoch job q e place is le (λ x there.
    let both : ◌≡◌ {A = Option Place} (Some r) (Some x) = sym after ∙ there in
    let same : r ≡ x = cc in
    subst (λ (y : Place). IsBefore q y) same before)))
    (up_to-or-before r q)

-- the first epochs of two walks, where the second begins in the first one's first epoch: it ends no earlier
in-to : (job : JobSizes) (epoch : ℕ) (p q : Place) (e f : EpochPlan) → IsPlace job p → IsPlace job q → IsUpTo p q
    → cut_at job epoch p ≡ Some e → cut_at job epoch q ≡ Some f → p.scan ≡ q.scan → p.m ≡ q.m → e.to ≤ f.to
in-to job epoch p q e f place other le cut next scan m =
    let at : slice_get job.scans p.scan ≡ Some other.size = ap (slice_get job.scans) scan ∙ other.scan in
    let both : ◌≡◌ {A = Option ScanSize} (Some place.size) (Some other.size) = sym place.scan ∙ at in
    let size : place.size ≡ other.size = cc in
    let samples : place.size.samples ≡ other.size.samples = ap (λ (s : ScanSize). s.samples) size in
    let times : (p.m + 1) * job.integration ≡ (q.m + 1) * job.integration = ap (λ n. (n + 1) * job.integration) m in
    let one : min (p.from + epoch) (integration_at job place.size p.m).to ≡ e.to =
    ap (λ (x : EpochPlan). x.to) (walk-first job epoch p place.size e place.scan cut) in
    let two : min (q.from + epoch) (integration_at job other.size q.m).to ≡ f.to =
    ap (λ (x : EpochPlan). x.to) (walk-first job epoch q other.size f other.scan next) in
    omega (arith, one, two, samples, times, le.from scan m)

-- a walk that stands no later has no fewer epochs
walk-le : (job : JobSizes) (epoch : ℕ) (due other : Option Place) (epochs others : List EpochPlan) → IsJob job → 1 ≤ epoch → epoch ≤ 4194304
    → IfSome due (IsPlace job) → IfSome other (IsPlace job) → Leads due other
    → IsWalk job epoch due epochs → IsWalk job epoch other others → length others ≤ length epochs
walk-le job epoch due other epochs [] is some short place there leads walk next = omega arith
walk-le job epoch due None epochs (f ∷ others) is some short place there leads walk next = absurd (cc (next.0))
walk-le job epoch due (Some q) [] (f ∷ others) is some short place there leads walk next =
    let first = leads q refl in
    absurd (cc (walk, first.1))
walk-le job epoch None (Some q) (e ∷ epochs) (f ∷ others) is some short place there leads walk next = absurd (cc (walk.0))
walk-le job epoch (Some p) (Some q) (e ∷ epochs) (f ∷ others) is some short place there leads walk next =
    let first = leads q refl in
    let p_is : p ≡ first.0 = cc (first.1) in
    let le : IsUpTo p q = subst (λ (x : Place). IsUpTo x q) (sym p_is) first.2 in
    let here = cut-IsEpoch job epoch p e place some short walk.0 in
    let behind = cut-IsEpoch job epoch q f there some short next.0 in
    let begin : p ≡ place_of e = ap place_of (walk-first job epoch p place.size e place.scan walk.0) in
    let begin_next : q ≡ place_of f = ap place_of (walk-first job epoch q there.size f there.scan next.0) in
    let scan : p.scan ≡ e.scan = ap (λ (x : Place). x.scan) begin in
    let m : p.m ≡ e.m = ap (λ (x : Place). x.m) begin in
    let scan_next : q.scan ≡ f.scan = ap (λ (x : Place). x.scan) begin_next in
    let m_next : q.m ≡ f.m = ap (λ (x : Place). x.m) begin_next in
    let from : IsUpTo (place_of e) q = subst (λ (x : Place). IsUpTo x q) begin le in
    ⊎_elim
    (λ inside.
    let to = in-to job epoch p q e f place there le walk.0 next.0 (scan ∙ inside.scan) (m ∙ inside.m) in
    let after = after-Leads job e f here behind (inside.scan ∙ scan_next) (inside.m ∙ m_next) to in
    let rest = walk-le job epoch (place_after job e) (place_after job f) epochs others is some short
    (after-IsPlace job e is here) (after-IsPlace job f is behind) after walk.1 next.1 in
    omega (arith, rest))
    (λ after.
    let rest = walk-le job epoch (place_after job e) (Some q) epochs (f ∷ others) is some short
    (after-IsPlace job e is here) there after walk.1 next in
    omega (arith, rest))
    (in-or-after job q e (place_after job e) there here from refl)

first-Leads : (job : JobSizes) (due : Option Place) → IfSome due (IsPlace job) → Leads (job_start job) due
first-Leads job None place q is = absurd (cc (is))
first-Leads job (Some p) place q is =
    let same : p ≡ q = cc in
    first-before job q (subst (λ (x : Place). IsPlace job x) same place)

pub left-within : (job : JobSizes) (epoch : ℕ) (due : Option Place) (n : ℕ) → IsJob job → 1 ≤ epoch → epoch ≤ 4194304
    → IfSome due (IsPlace job) → AreLeft job epoch due n → n ≤ length (epochs_by job epoch)
left-within job epoch due n is some short place left =
    let few = walk-le job epoch (job_start job) due (epochs_by job epoch) left.epochs is some short (first-IfSome job is) place
    (first-Leads job due place) (epochs_by-IsWalk job epoch is some short) left.walk in
    omega (arith, few, left.many)
