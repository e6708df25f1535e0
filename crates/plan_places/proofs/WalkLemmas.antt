-- How many epochs a walk has through an integration, and through the rest of a scan.
use Rattle.std.specs.Prelude.{slice_get}
use Rattle.std.specs.Int.{div_ceil}
use Rattle.std.proofs.Common.{◌≡◌, ◌∙◌, sym, ap, refl, subst, ℕ, zero, suc, ◌+◌, ◌-◌, ◌*◌, ◌<◌, ◌≤◌, min, List, [], ◌∷◌, length, drop, Option, Some, ⊎_elim, arith}
use Rattle.std.proofs.lemmas.Bool.{cases_lt}
use Rattle.piece_plan.specs.declared.job.ScanSize.{ScanSize}
use Rattle.piece_plan.specs.declared.epoch.EpochPlan.{EpochPlan}
use Rattle.piece_plan.specs.Counts.{count_in}
use Rattle.piece_plan.specs.Epochs.{JobSizes, IsEpoch, integration_at, range_of}
use Rattle.piece_plan.specs.Order.{Place, first_place, place_after}
use Rattle.plan_places.specs.Places.{IsPlace}
use Rattle.plan_places.specs.Search.{EndsIntegration, EndsScan}
use Rattle.plan_places.specs.Walk.{cut_at, IsWalk}
use Rattle.piece_plan.proofs.RangeLemmas.{range-IsEpoch}
use Rattle.plan_places.proofs.AfterLemmas.{after-inside, after-integration, after-scan, after-same, next-IsPlace}
use Rattle.plan_places.proofs.CutLemmas.{cut_of, cut-is, size-same}
use Rattle.plan_places.proofs.Counts.{ceil-one, ceil-more, count-small, count-more}

-- a walk that goes on from another place behind so many epochs
pub record IsRest (job : JobSizes) (epoch : ℕ) (due : Option Place) (epochs : List EpochPlan) (count : ℕ) : Type 0 where
  pub rest : List EpochPlan
  pub walk : IsWalk job epoch due rest
  pub long : length epochs ≡ count + length rest

-- the first epoch of a walk from a place
pub walk-first : (job : JobSizes) (epoch : ℕ) (p : Place) (size : ScanSize) (e : EpochPlan) → slice_get job.scans p.scan ≡ Some size
    → cut_at job epoch p ≡ Some e → cut_of job epoch p size ≡ e
walk-first job epoch p size e at is =
    let both : ◌≡◌ {A = Option EpochPlan} (Some (cut_of job epoch p size)) (Some e) = sym (cut-is job epoch p size at) ∙ is in
    cc

moved-IsPlace : (job : JobSizes) (p : Place) (place : IsPlace job p) (epoch : ℕ) → p.from + epoch < (integration_at job place.size p.m).to
    → IsPlace job (record { scan = p.scan; m = p.m; from = p.from + epoch })
moved-IsPlace job p place epoch inside = record {
  size = place.size;
  scan = place.scan;
  first = place.first;
  from = omega (arith, place.from);
  inside = inside;
}

-- through an integration, whose last epoch is d
pub integration-walk : (job : JobSizes) (epoch : ℕ) (p : Place) (d : EpochPlan) (epochs : List EpochPlan) → 1 ≤ epoch → IsPlace job p → EndsIntegration job p d
    → IsWalk job epoch (Some p) epochs → IsRest job epoch (place_after job d) epochs (div_ceil (d.to - p.from) epoch)
integration-walk job epoch p d [] some place ends walk = absurd (cc)
integration-walk job epoch p d (e ∷ epochs) some place ends walk =
    let size = size-same job p d place ends.is ends.scan in
    let samples : ends.is.size.samples ≡ place.size.samples = ap (λ (s : ScanSize). s.samples) size in
    let end : d.to ≡ (integration_at job place.size p.m).to = omega (arith, ends.to, samples) in
    let first = walk-first job epoch p place.size e place.scan walk.0 in
    let later : IsWalk job epoch (place_after job (cut_of job epoch p place.size)) epochs =
    subst (λ (x : EpochPlan). IsWalk job epoch (place_after job x) epochs) (sym first) walk.1 in
    let c : EpochPlan = cut_of job epoch p place.size in
    ⊎_elim
    (λ inside.
    let to : min (p.from + epoch) (integration_at job place.size p.m).to ≡ p.from + epoch = omega (arith, inside) in
    let after : place_after job (cut_of job epoch p place.size) ≡ Some (record { scan = p.scan; m = p.m; from = p.from + epoch }) =
    after-inside job (cut_of job epoch p place.size) place.size place.scan (omega (arith, inside))
    ∙ ap {B = Option Place} (λ n. Some (record { scan = p.scan; m = p.m; from = n })) to in
    let on : IsWalk job epoch (Some (record { scan = p.scan; m = p.m; from = p.from + epoch })) epochs =
    subst (λ (o : Option Place). IsWalk job epoch o epochs) after later in
    let next = integration-walk job epoch (record { scan = p.scan; m = p.m; from = p.from + epoch }) d epochs some (moved-IsPlace job p place epoch inside)
    (record { is = ends.is; scan = ends.scan; m = ends.m; to = ends.to }) on in
    let more = ceil-more (d.to - (p.from + epoch)) epoch (d.to - p.from) (omega (arith, some)) (omega (arith, inside, end)) in
    record { rest = next.rest; walk = next.walk; long = omega (arith, next.long, more) })
    (λ past.
    let to : min (p.from + epoch) (integration_at job place.size p.m).to ≡ d.to = omega (arith, past, end) in
    let after : place_after job (cut_of job epoch p place.size) ≡ place_after job d =
    after-same job (cut_of job epoch p place.size) d place.size place.scan (sym ends.scan) (sym ends.m) to in
    let one = ceil-one (d.to - p.from) epoch (omega (arith, end, place.inside)) (omega (arith, end, past)) in
    record {
      rest = epochs;
      walk = subst (λ (o : Option Place). IsWalk job epoch o epochs) after later;
      long = omega (arith, one);
    })
    (cases_lt (p.from + epoch) (integration_at job place.size p.m).to)

-- the last sample of a place's integration
abbrev pub last_of : JobSizes → Place → ScanSize → EpochPlan
last_of job p size =
    range_of job p.scan size p.m (record { from = (integration_at job size p.m).to - 1; to = (integration_at job size p.m).to })

last_of-Ends : (job : JobSizes) (p : Place) (place : IsPlace job p) → EndsIntegration job p (last_of job p place.size)
last_of-Ends job p place =
    let is : IsEpoch job (last_of job p place.size) =
    range-IsEpoch job p.scan place.size p.m _ _ place.scan place.first
    (omega (arith, place.from, place.inside)) (omega (arith, place.inside)) (omega arith) (omega arith) in
    let same = size-same job p (last_of job p place.size) place is refl in
    record { is = is; scan = refl; m = refl; to = ap (λ (s : ScanSize). (integration_at job s p.m).to) (sym same) }

-- two stretches of a walk are one
join : (all a b x y sum rest : ℕ) → all ≡ a + b → b ≡ y + rest → a ≡ x → sum ≡ x + y → all ≡ sum + rest
join all a b x y sum rest h k l m = omega (arith, h, k, l, m)

-- through the rest of a scan from an integration's begin on; d is the scan's last epoch
pub scan-walk : (n : ℕ) (job : JobSizes) (epoch : ℕ) (p : Place) (d : EpochPlan) (epochs : List EpochPlan) → 1 ≤ epoch → 1 ≤ job.integration
    → IsPlace job p → p.from ≡ p.m * job.integration → EndsScan job p d → d.to - p.from ≤ n
    → IsWalk job epoch (Some p) epochs → IsRest job epoch (place_after job d) epochs (count_in (d.to - p.from) job.integration epoch)
scan-walk zero job epoch p d epochs some whole place begin ends few walk =
    let size = size-same job p d place ends.is ends.scan in
    let samples : ends.is.size.samples ≡ place.size.samples = ap (λ (s : ScanSize). s.samples) size in
    absurd (omega (arith, few, place.inside, ends.to, samples))
scan-walk (suc n) job epoch p d epochs some whole place begin ends few walk =
    let size = size-same job p d place ends.is ends.scan in
    let samples : ends.is.size.samples ≡ place.size.samples = ap (λ (s : ScanSize). s.samples) size in
    let all : d.to ≡ place.size.samples = omega (arith, ends.to, samples) in
    let first = integration-walk job epoch p (last_of job p place.size) epochs some place (last_of-Ends job p place) walk in
    ⊎_elim
    (λ inside.
    let end : (integration_at job place.size p.m).to ≡ (p.m + 1) * job.integration = omega (arith, inside) in
    let after = after-integration job (last_of job p place.size) place.size place.scan (omega arith) inside in
    let on : IsWalk job epoch (Some (record { scan = p.scan; m = p.m + 1; from = (integration_at job place.size p.m).to })) first.rest =
    subst (λ (o : Option Place). IsWalk job epoch o first.rest) after first.walk in
    let next = scan-walk n job epoch (record { scan = p.scan; m = p.m + 1; from = (integration_at job place.size p.m).to }) d first.rest some whole
    (next-IsPlace job p.scan p.m _ place.size place.scan place.first whole refl inside) end (record { is = ends.is; scan = ends.scan; to = ends.to }) (omega (arith, few, place.inside, all, inside)) on in
    let long : (integration_at job place.size p.m).to - p.from ≡ job.integration = omega (arith, end, begin) in
    let sum = count-more (d.to - (integration_at job place.size p.m).to) (d.to - p.from) job.integration epoch whole (omega (arith, end, begin, all, inside)) in
    record {
      rest = next.rest;
      walk = next.walk;
      long = join _ _ _ _ _ _ _ first.long next.long (ap (λ n. div_ceil n epoch) long) sum;
    })
    (λ last.
    let after : place_after job (last_of job p place.size) ≡ place_after job d =
    after-scan job (last_of job p place.size) place.size place.scan (omega arith) last
    ∙ ap (λ n. first_place job.integration (n + 1) (drop (n + 1) job.scans)) (sym ends.scan)
    ∙ sym (after-scan job d ends.is.size ends.is.scan (omega (arith, ends.to)) (omega (arith, ends.to))) in
    let end : (integration_at job place.size p.m).to ≡ d.to = omega (arith, last, all) in
    let long : (integration_at job place.size p.m).to - p.from ≡ d.to - p.from = ap (λ n. n - p.from) end in
    let small = count-small (d.to - p.from) job.integration epoch (omega (arith, all, place.inside)) (omega (arith, end, begin)) some in
    record {
      rest = first.rest;
      walk = subst (λ (o : Option Place). IsWalk job epoch o first.rest) after first.walk;
      long = first.long ∙ ap (λ n. n + length first.rest) (ap (λ n. div_ceil n epoch) long ∙ sym small);
    })
    (cases_lt (integration_at job place.size p.m).to place.size.samples)
