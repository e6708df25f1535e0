-- The epoch from a place up to a sample, by the longest one from there on.
use Rattle.std.proofs.Common.{◌≡◌, ◌⊎◌, inl, inr, ℕ, ◌+◌, ◌*◌, ◌<◌, ◌≤◌, Some, refl, sym, ap, subst, arith}
use Rattle.piece_plan.specs.declared.job.ScanSize.{ScanSize}
use Rattle.piece_plan.specs.declared.epoch.EpochPlan.{EpochPlan}
use Rattle.piece_plan.specs.Epochs.{JobSizes, IsOfPlan}
use Rattle.piece_plan.specs.Order.{Place, place_of}
use Rattle.piece_plan.proofs.RangeLemmas.{range-IsEpoch}
use Rattle.plan_places.specs.Places.{IsPlace}
use Rattle.plan_places.specs.Walk.{cut_at}
use Rattle.plan_places.proofs.CutLemmas.{cut_of, size-same}
use Rattle.plan_places.proofs.WalkLemmas.{walk-first}
use Rattle.journal_image.specs.Difference.{IsRange}

-- an epoch that ends at another sample
abbrev ending : EpochPlan → ℕ → EpochPlan
ending e to = record e { to = to }

-- an epoch begins where it is cut
pub cut-begins : (job : JobSizes) (epoch : ℕ) (p : Place) (e : EpochPlan) → IsPlace job p → cut_at job epoch p ≡ Some e → place_of e ≡ p
cut-begins job epoch p e place cut = sym (ap place_of (walk-first job epoch p place.size e place.scan cut))

pub longest-IsRange : (job : JobSizes) (p : Place) (to : ℕ) (e : EpochPlan) → IsPlace job p → cut_at job 4194304 p ≡ Some e
    → p.from < to → to ≤ e.to → IsRange job p to (ending e to)
longest-IsRange job p to e place cut some within =
    let first = walk-first job 4194304 p place.size e place.scan cut in
    let inside : to ≤ (cut_of job 4194304 p place.size).to = subst (λ (x : EpochPlan). to ≤ x.to) (sym first) within in
    subst (λ (x : EpochPlan). IsRange job p to (ending x to)) first (record {
      begins = refl;
      ends = refl;
      fits = range-IsEpoch job p.scan place.size p.m p.from to place.scan place.first place.from some (omega (arith, inside)) (omega (arith, inside));
    })

pub longest-IsOfPlan : (job : JobSizes) (p : Place) (to : ℕ) (e : EpochPlan) → IsPlace job p → cut_at job 4194304 p ≡ Some e
    → IsOfPlan e → p.from < to → to ≤ e.to → IsOfPlan (ending e to)
longest-IsOfPlan job p to e place cut of_plan some within =
    let first = walk-first job 4194304 p place.size e place.scan cut in
    let from : p.from ≡ e.from = ap (λ (x : EpochPlan). x.from) first in
    record {
      some = omega (arith, from, some);
      to = omega (arith, of_plan.to, within);
      short = omega (arith, of_plan.short, within);
      products = of_plan.products;
      baselines = of_plan.baselines;
      lags = of_plan.lags;
      cells = of_plan.cells;
    }

pub longest-none : (job : JobSizes) (p : Place) (to : ℕ) (e : EpochPlan) → IsPlace job p → cut_at job 4194304 p ≡ Some e
    → (to ≤ p.from) ⊎ ((p.from < to) × (e.to < to)) → (f : EpochPlan) → ¬ IsRange job p to f
longest-none job p to e place cut (inl empty) f range =
    let from : f.from ≡ p.from = ap (λ (q : Place). q.from) range.begins in
    omega (arith, range.fits.some, range.ends, from, empty)
longest-none job p to e place cut (inr past) f range =
    let first = walk-first job 4194304 p place.size e place.scan cut in
    let scan : f.scan ≡ p.scan = ap (λ (q : Place). q.scan) range.begins in
    let m : f.m ≡ p.m = ap (λ (q : Place). q.m) range.begins in
    let from : f.from ≡ p.from = ap (λ (q : Place). q.from) range.begins in
    let size = size-same job p f place range.fits scan in
    let samples : range.fits.size.samples ≡ place.size.samples = ap (λ (s : ScanSize). s.samples) size in
    let times : (f.m + 1) * job.integration ≡ (p.m + 1) * job.integration = ap (λ n. (n + 1) * job.integration) m in
    let longest : (cut_of job 4194304 p place.size).to ≡ e.to = ap (λ (x : EpochPlan). x.to) first in
    omega (arith, longest, past.1, range.fits.to, range.fits.short, range.ends, from, samples, times)
