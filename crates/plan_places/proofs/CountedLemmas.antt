-- The count of a walk, scan by scan.
use Rattle.std.specs.Prelude.{slice_get, option_map}
use Rattle.std.specs.Int.{div_ceil}
use Rattle.std.proofs.Common.{◌≡◌, ◌∙◌, sym, ap, refl, subst, ℕ, ◌+◌, ◌-◌, ◌*◌, ◌^◌, ◌<◌, ◌≤◌, min, List, [], ◌∷◌, length, get_or, Option, Some, None, ⊎_elim, arith}
use Rattle.std.proofs.lemmas.Bool.{cases_lt}
use Rattle.std.proofs.lemmas.Option.{slice_get_within, slice_get-get_or, slice_get_past}
use Rattle.piece_plan.specs.declared.job.ScanSize.{ScanSize}
use Rattle.piece_plan.specs.declared.epoch.EpochPlan.{EpochPlan}
use Rattle.piece_plan.specs.Counts.{count_in}
use Rattle.piece_plan.specs.Epochs.{JobSizes, IsJob, IsEpoch, integration_at, epochs_of}
use Rattle.piece_plan.specs.Order.{Place, place_of, job_start, place_after}
use Rattle.piece_plan.proofs.WalkLemmas.{epochs-CoverJob}
use Rattle.plan_places.specs.Places.{IsPlace}
use Rattle.plan_places.specs.Search.{begin_at, BeginsAt, EndsIntegration, EndsScan}
use Rattle.plan_places.specs.Walk.{IsWalk, IsScanLeft}
use Rattle.plan_places.proofs.AfterLemmas.{after-integration, first-later, begin_of-IsPlace}
use Rattle.plan_places.proofs.OrderedEpochs.{begin_at-is, order-at, order-le}
use Rattle.plan_places.proofs.CutLemmas.{same-sizes}
use Rattle.plan_places.proofs.Counts.{count-by-first}
use Rattle.plan_places.proofs.WalkLemmas.{IsRest, integration-walk, scan-walk}

-- behind the end of an integration one begins
next-begins : (job : JobSizes) (d : EpochPlan) (q : Place) (is : IsEpoch job d) → (integration_at job is.size d.m).to ≤ d.to
    → place_after job d ≡ Some q → q.from ≡ q.m * job.integration
next-begins job d q is end after =
    ⊎_elim
    (λ inside.
    let both : ◌≡◌ {A = Option Place} (Some (record { scan = d.scan; m = d.m + 1; from = d.to })) (Some q) =
    sym (after-integration job d is.size is.scan end inside) ∙ after in
    let same : ◌≡◌ {A = Place} (record { scan = d.scan; m = d.m + 1; from = d.to }) q = cc in
    let here : d.to ≡ (d.m + 1) * job.integration = omega (arith, end, inside, is.to) in
    subst (λ (p : Place). p.from ≡ p.m * job.integration) same here)
    (λ last.
    let first = first-later job d q is end last after in
    first.from ∙ ap (λ n. n * job.integration) (sym first.m))
    (cases_lt d.to is.size.samples)

next-is : (job : JobSizes) (k : ℕ) (d e : EpochPlan) → IsJob job → slice_get (epochs_of job) k ≡ Some d → slice_get (epochs_of job) (k + 1) ≡ Some e
    → place_after job d ≡ Some (place_of e)
next-is job k d e is at there =
    let follow = order-at job (job_start job) (epochs_of job) k d (epochs-CoverJob job is) at in
    follow.next ∙ begin_at-is (epochs_of job) (k + 1) e there

pub next-BeginsAt : (job : JobSizes) (k : ℕ) (d : EpochPlan) → IsJob job → slice_get (epochs_of job) k ≡ Some d → (is : IsEpoch job d)
    → (integration_at job is.size d.m).to ≤ d.to → BeginsAt job (k + 1)
next-BeginsAt job k d job_is at is end e there = next-begins job d (place_of e) is end (next-is job k d e job_is at there)

-- the epoch behind the end of a scan is in a later one
next-scan : (job : JobSizes) (k : ℕ) (d e : EpochPlan) → IsJob job → slice_get (epochs_of job) k ≡ Some d → slice_get (epochs_of job) (k + 1) ≡ Some e
    → (is : IsEpoch job d) → is.size.samples ≤ d.to → d.scan < e.scan
next-scan job k d e job_is at there is last =
    let first = first-later job d (place_of e) is (omega (arith, last)) last (next-is job k d e job_is at there) in
    omega (arith, first.scan)

-- the last epoch of a scan is not before another one of it
after-first : (job : JobSizes) (i k : ℕ) (e d : EpochPlan) → IsJob job → slice_get (epochs_of job) i ≡ Some e → slice_get (epochs_of job) k ≡ Some d
    → (is : IsEpoch job d) → is.size.samples ≤ d.to → d.scan ≡ e.scan → i < k + 1
after-first job i k e d job_is at there is last scan =
    ⊎_elim
    (λ before. before)
    (λ past.
    let x : EpochPlan = get_or (epochs_of job) (k + 1) e in
    let next = slice_get-get_or (epochs_of job) (k + 1) e (omega (arith, past, slice_get_within (epochs_of job) i e at)) in
    let later = next-scan job k d (get_or (epochs_of job) (k + 1) e) job_is there next is last in
    let order = order-le job (job_start job) (epochs_of job) (k + 1) i (get_or (epochs_of job) (k + 1) e) e (epochs-CoverJob job job_is) past next at in
    absurd (omega (arith, later, order.scan, scan)))
    (cases_lt i (k + 1))

scan-left-walk : (job : JobSizes) (epoch i k count : ℕ) (e first d : EpochPlan) (walk : List EpochPlan) → IsJob job → 1 ≤ epoch
    → slice_get (epochs_of job) i ≡ Some e → slice_get (epochs_of job) k ≡ Some d → e.from ≡ e.m * job.integration
    → EndsIntegration job (place_of e) first → EndsScan job (place_of e) d
    → count ≡ count_in (d.to - e.from) (first.to - e.from) epoch → IsWalk job epoch (begin_at (epochs_of job) i) walk
    → IsRest job epoch (begin_at (epochs_of job) (k + 1)) walk count
scan-left-walk job epoch i k count e first d walk is some at there begin integration scan count_is goes =
    let cover = epochs-CoverJob job is in
    let here = order-at job (job_start job) (epochs_of job) i e cover at in
    let last = order-at job (job_start job) (epochs_of job) k d cover there in
    let due : IsWalk job epoch (Some (place_of e)) walk = subst (λ (o : Option Place). IsWalk job epoch o walk) (begin_at-is (epochs_of job) i e at) goes in
    let whole = scan-walk (d.to - e.from) job epoch (place_of e) d walk some is.integration (begin_of-IsPlace job e here.is) begin scan (omega arith) due in
    let sizes = same-sizes job first d integration.is scan.is (integration.scan ∙ sym scan.scan) in
    let samples : integration.is.size.samples ≡ scan.is.size.samples = ap (λ (s : ScanSize). s.samples) sizes in
    let size = same-sizes job e d here.is scan.is (sym scan.scan) in
    let own : here.is.size.samples ≡ scan.is.size.samples = ap (λ (s : ScanSize). s.samples) size in
    let part : first.to - e.from ≡ min job.integration (d.to - e.from) = omega (arith, integration.to, scan.to, samples, begin) in
    let same = count-by-first (d.to - e.from) (first.to - e.from) job.integration epoch (omega (arith, scan.to, here.is.some, here.is.to, own)) some part in
    record {
      rest = whole.rest;
      walk = subst (λ (o : Option Place). IsWalk job epoch o whole.rest) last.next whole.walk;
      long = whole.long ∙ ap (λ n. n + length whole.rest) (sym same ∙ sym count_is);
    }

pub scan-left-is : (job : JobSizes) (epoch i k count : ℕ) (e first d : EpochPlan) → IsJob job → 1 ≤ epoch → BeginsAt job i
    → slice_get (epochs_of job) i ≡ Some e → slice_get (epochs_of job) k ≡ Some d
    → EndsIntegration job (place_of e) first → EndsScan job (place_of e) d → d.to ≤ 2 ^ 40
    → count ≡ count_in (d.to - e.from) (first.to - e.from) epoch → count ≤ d.to - e.from
    → IsScanLeft job epoch i (k + 1) count
scan-left-is job epoch i k count e first d is some begins at there integration scan long count_is few = record {
  after = after-first job i k e d is at there scan.is (omega (arith, scan.to)) scan.scan;
  within = omega (arith, slice_get_within (epochs_of job) k d there);
  begin = next-BeginsAt job k d is there scan.is (omega (arith, scan.to));
  scans = λ a b at_a at_b.
      let both : ◌≡◌ {A = Option EpochPlan} (Some a) (Some e) = sym at_a ∙ at in
      let same : a ≡ e = cc in
      omega (arith, ap (λ (x : EpochPlan). x.scan) same, scan.scan, next-scan job k d b is there at_b scan.is (omega (arith, scan.to)));
  few = omega (arith, few, long);
  walk = λ walk goes.
      let rest = scan-left-walk job epoch i k count e first d walk is some at there (begins e at) integration scan count_is goes in
      (rest.rest, rest.walk, rest.long);
}

-- the count of the scans up to epoch i
pub record IsCounted (job : JobSizes) (epoch first i count : ℕ) : Type 0 where
  pub within : i ≤ length (epochs_of job)
  pub begin : BeginsAt job i
  pub few : (e : EpochPlan) → slice_get (epochs_of job) i ≡ Some e → count ≤ e.scan * 2 ^ 40
  pub most : count ≤ length job.scans * 2 ^ 40
  pub walk : (epochs : List EpochPlan) → IsWalk job epoch (begin_at (epochs_of job) first) epochs
      → IsRest job epoch (begin_at (epochs_of job) i) epochs count

pub counted-none : (job : JobSizes) (epoch first : ℕ) → first ≤ length (epochs_of job) → BeginsAt job first → IsCounted job epoch first first 0
counted-none job epoch first within begin = record {
  within = within;
  begin = begin;
  few = λ e at. omega arith;
  most = omega arith;
  walk = λ epochs goes. record { rest = epochs; walk = goes; long = omega arith };
}

-- the scan of an epoch is one of the job
scan-within : (job : JobSizes) (i : ℕ) (e : EpochPlan) → IsJob job → slice_get (epochs_of job) i ≡ Some e → e.scan < length job.scans
scan-within job i e is at =
    let here = order-at job (job_start job) (epochs_of job) i e (epochs-CoverJob job is) at in
    slice_get_within job.scans e.scan here.is.size here.is.scan

pub counted-more : (job : JobSizes) (epoch first i count next more : ℕ) (e : EpochPlan) → IsJob job → IsCounted job epoch first i count
    → slice_get (epochs_of job) i ≡ Some e → IsScanLeft job epoch i next more → IsCounted job epoch first next (count + more)
counted-more job epoch first i count next more e is h at left = record {
  within = left.within;
  begin = left.begin;
  few = λ d there. omega (arith, h.few e at, left.few, left.scans e d at there);
  most = omega (arith, h.few e at, left.few, scan-within job i e is at);
  walk = λ epochs goes.
      let old = h.walk epochs goes in
      let new = left.walk old.rest old.walk in
      record { rest = new.0; walk = new.1; long = omega (arith, old.long, new.2) };
}

pub walk-none : (job : JobSizes) (epoch : ℕ) (epochs : List EpochPlan) → IsWalk job epoch None epochs → 0 ≡ length epochs
walk-none job epoch [] h = refl
walk-none job epoch (e ∷ epochs) h = absurd (cc (h.0))

pub counted-all : (job : JobSizes) (epoch first i count : ℕ) (epochs : List EpochPlan) → IsCounted job epoch first i count → length (epochs_of job) ≤ i
    → IsWalk job epoch (begin_at (epochs_of job) first) epochs → count ≡ length epochs
counted-all job epoch first i count epochs h past goes =
    let rest = h.walk epochs goes in
    let end : begin_at (epochs_of job) i ≡ None = ap (λ (o : Option EpochPlan). option_map place_of o) (slice_get_past (epochs_of job) i past) in
    let over : IsWalk job epoch None rest.rest = subst (λ (o : Option Place). IsWalk job epoch o rest.rest) end rest.walk in
    omega (arith, rest.long, walk-none job epoch rest.rest over)

pub counted-bound : (job : JobSizes) (epoch first i count : ℕ) → IsJob job → IsCounted job epoch first i count → count ≤ 2 ^ 63
counted-bound job epoch first i count is h = omega (arith, h.most, is.many)

-- the epochs up to the end of an integration, and those behind
pub left-is : (job : JobSizes) (epoch k part later : ℕ) (p : Place) (last : EpochPlan) (walk : List EpochPlan) → 1 ≤ epoch → IsPlace job p
    → EndsIntegration job p last → place_after job last ≡ begin_at (epochs_of job) (k + 1) → part ≡ div_ceil (last.to - p.from) epoch
    → ((epochs : List EpochPlan) → IsWalk job epoch (begin_at (epochs_of job) (k + 1)) epochs → later ≡ length epochs)
    → IsWalk job epoch (Some p) walk → part + later ≡ length walk
left-is job epoch k part later p last walk some place ends next part_is later_is goes =
    let rest = integration-walk job epoch p last walk some place ends goes in
    let behind = later_is rest.rest (subst (λ (o : Option Place). IsWalk job epoch o rest.rest) next rest.walk) in
    let sum : length walk ≡ part + length rest.rest = rest.long ∙ ap (λ n. n + length rest.rest) (sym part_is) in
    omega (arith, sum, behind)

pub last-BeginsAt : (job : JobSizes) (k : ℕ) (p : Place) (last : EpochPlan) → IsJob job → slice_get (epochs_of job) k ≡ Some last
    → EndsIntegration job p last → BeginsAt job (k + 1)
last-BeginsAt job k p last is at ends =
    let times : (last.m + 1) * job.integration ≡ (p.m + 1) * job.integration = ap (λ n. (n + 1) * job.integration) ends.m in
    next-BeginsAt job k last is at ends.is (omega (arith, ends.to, times))
