-- The epoch that is cut from a place.
use Rattle.std.specs.Prelude.{slice_get}
use Rattle.std.proofs.Common.{◌≡◌, ◌∙◌, sym, ap, subst, ℕ, ◌+◌, ◌<◌, ◌≤◌, min, Option, Some, arith}
use Rattle.piece_plan.specs.declared.job.ScanSize.{ScanSize}
use Rattle.piece_plan.specs.declared.epoch.EpochPlan.{EpochPlan}
use Rattle.piece_plan.specs.Epochs.{JobSizes, IsEpoch, range_of, integration_at}
use Rattle.piece_plan.specs.Order.{Place, place_of, place_after}
use Rattle.piece_plan.proofs.RangeLemmas.{range-IsEpoch}
use Rattle.plan_places.specs.Places.{IsPlace}
use Rattle.plan_places.specs.Walk.{cut_in, cut_at}
use Rattle.plan_places.specs.Search.{EndsIntegration}
use Rattle.plan_places.proofs.AfterLemmas.{after-inside, after-same}

-- the epoch from a place of a scan on
abbrev pub cut_of : JobSizes → ℕ → Place → ScanSize → EpochPlan
cut_of job epoch p size = range_of job p.scan size p.m (record { from = p.from; to = min (p.from + epoch) (integration_at job size p.m).to })

pub cut-is : (job : JobSizes) (epoch : ℕ) (p : Place) (size : ScanSize) → slice_get job.scans p.scan ≡ Some size
    → cut_at job epoch p ≡ Some (cut_of job epoch p size)
unfolding cut_at
cut-is job epoch p size at = ap (cut_in job p epoch) at

pub cut_of-IsEpoch : (job : JobSizes) (epoch : ℕ) (p : Place) (place : IsPlace job p) → 1 ≤ epoch → epoch ≤ 4194304
    → IsEpoch job (cut_of job epoch p place.size)
cut_of-IsEpoch job epoch p place some short =
    range-IsEpoch job p.scan place.size p.m _ _ place.scan place.first place.from (omega (arith, some, place.inside)) (omega arith) (omega (arith, short))

pub cut-IsEpoch : (job : JobSizes) (epoch : ℕ) (p : Place) (e : EpochPlan) → IsPlace job p → 1 ≤ epoch → epoch ≤ 4194304
    → cut_at job epoch p ≡ Some e → IsEpoch job e
cut-IsEpoch job epoch p e place some short is =
    let both : ◌≡◌ {A = Option EpochPlan} (Some (cut_of job epoch p place.size)) (Some e) = sym (cut-is job epoch p place.size place.scan) ∙ is in
    let same : cut_of job epoch p place.size ≡ e = cc in
    subst (λ (x : EpochPlan). IsEpoch job x) same (cut_of-IsEpoch job epoch p place some short)

pub size-same : (job : JobSizes) (p : Place) (e : EpochPlan) → (place : IsPlace job p) → (is : IsEpoch job e) → e.scan ≡ p.scan → is.size ≡ place.size
size-same job p e place is scan =
    let other : slice_get job.scans p.scan ≡ Some is.size = ap (slice_get job.scans) (sym scan) ∙ is.scan in
    let both : ◌≡◌ {A = Option ScanSize} (Some is.size) (Some place.size) = sym other ∙ place.scan in
    cc

-- the same by the last epoch of the place's integration
pub cut-by-last : (job : JobSizes) (epoch : ℕ) (p : Place) (last : EpochPlan) (to : ℕ) → IsPlace job p → EndsIntegration job p last
    → to ≡ min last.to (p.from + epoch)
    → cut_at job epoch p ≡ Some (record last { scan = p.scan; m = p.m; from = p.from; to = to })
cut-by-last job epoch p last to place ends is =
    let size = size-same job p last place ends.is ends.scan in
    let samples : ends.is.size.samples ≡ place.size.samples = ap (λ (s : ScanSize). s.samples) size in
    let end : min (p.from + epoch) (integration_at job place.size p.m).to ≡ to = omega (arith, is, ends.to, samples) in
    let products : place.size.products ≡ last.products = sym (ends.is.products ∙ ap (λ (s : ScanSize). s.products) size) in
    let baselines : place.size.baselines ≡ last.baselines = sym (ends.is.baselines ∙ ap (λ (s : ScanSize). s.baselines) size) in
    let lags : job.lags ≡ last.lags = sym ends.is.lags in
    cut-is job epoch p place.size place.scan
    ∙ (λ i. Some (record {
      scan = p.scan;
      m = p.m;
      from = p.from;
      to = end i;
      products = products i;
      baselines = baselines i;
      lags = lags i;
    }))

pub same-sizes : (job : JobSizes) (e d : EpochPlan) → (is : IsEpoch job e) → (other : IsEpoch job d) → e.scan ≡ d.scan → is.size ≡ other.size
same-sizes job e d is other scan =
    let there : slice_get job.scans e.scan ≡ Some other.size = ap (slice_get job.scans) scan ∙ other.scan in
    let both : ◌≡◌ {A = Option ScanSize} (Some is.size) (Some other.size) = sym is.scan ∙ there in
    cc

-- the place after an epoch, by the last epoch of its integration
pub after-inside-last : (job : JobSizes) (e last : EpochPlan) → IsEpoch job e → EndsIntegration job (place_of e) last → e.to < last.to
    → place_after job e ≡ Some (record { scan = e.scan; m = e.m; from = e.to })
after-inside-last job e last is ends inside =
    let size = same-sizes job last e ends.is is ends.scan in
    let samples : ends.is.size.samples ≡ is.size.samples = ap (λ (s : ScanSize). s.samples) size in
    after-inside job e is.size is.scan (omega (arith, inside, ends.to, samples))

pub after-end-last : (job : JobSizes) (e last : EpochPlan) → IsEpoch job e → EndsIntegration job (place_of e) last → last.to ≤ e.to
    → place_after job e ≡ place_after job last
after-end-last job e last is ends end =
    let size = same-sizes job last e ends.is is ends.scan in
    let samples : ends.is.size.samples ≡ is.size.samples = ap (λ (s : ScanSize). s.samples) size in
    after-same job e last is.size is.scan (sym ends.scan) (sym ends.m) (omega (arith, end, is.to, ends.to, samples))
